-- What can be served: every legal history for ever, and an offer exactly where there is room for
-- it.
use Rattle.std.specs.Prelude.{◌≡◌, ◌↔◌, ℕ, ◌+◌, ◌*◌, ◌/◌, ◌≤◌, ◌<◌, true, [], ◌∷◌, All}
use Rattle.slot_core.specs.declared.tasks.TaskSet.{TaskSet}
use Rattle.slot_core.specs.Sets.Cycles.{cycle_of}
use Rattle.slot_core.specs.Sets.Ranges.{is_sound}
use Rattle.slot_core.specs.Feasibility.Feasible.{IsFeasible}
use Rattle.slot_core.specs.Runs.Histories.{History, time_of, last_row, offered_job}
use Rattle.slot_core.specs.Offline.Keys.{row_of}
use Rattle.slot_core.specs.Keeping.Kept.{KeepsBounds}
use Rattle.slot_core.specs.declared.jobs.Job.{Job}
use Rattle.slot_core.specs.Runs.Scenes.{Scene, horizon, scene_of, scene_in}
use Rattle.slot_core.specs.Runs.Demand.{HasRoom}
use Rattle.slot_core.specs.Runs.Traces.{IsLegal}
use Rattle.slot_core.specs.Claims.Futures.{CanBeServed, CanBeServedUntil, OfferCanBeServed, LeavesNone, densest_until, OffersAreExact}

-- whatever legal pattern follows, every legal history can be served up to any number of cycles past
-- its horizon
abbrev pub EveryLegalHistoryCanBeServed : Type 0
EveryLegalHistoryCanBeServed =
    (set : TaskSet) (h : History) (cycles : ℕ)
    → is_sound set ≡ true → IsFeasible set (cycle_of set) → IsLegal set (cycle_of set) h
    → time_of h / cycle_of set + 3 ≤ cycles
    → CanBeServedUntil
    set
    (cycles * cycle_of set)
    (scene_in set (cycle_of set) cycles h)
    (last_row h + 1)
    []

-- there is room for an offer exactly where it can be served with the remaining jobs, whatever legal
-- pattern follows (one that is due past the horizon needs nothing up to it)
abbrev pub RoomIsExact : Type 0
RoomIsExact =
    (set : TaskSet) (h : History) (slots within : ℕ)
    → is_sound set ≡ true → IsFeasible set (cycle_of set) → IsLegal set (cycle_of set) h
    → 1 ≤ slots
    → (HasRoom set.sporadics (cycle_of set) (scene_of set (cycle_of set) h) slots within
    ↔ OfferCanBeServed set (cycle_of set) h slots within)

-- where there is none, the densest pattern from now on is a legal one that leaves no schedule
abbrev pub TheDensestPatternShowsIt : Type 0
TheDensestPatternShowsIt =
    (set : TaskSet) (h : History) (slots within : ℕ)
    → is_sound set ≡ true → IsFeasible set (cycle_of set) → IsLegal set (cycle_of set) h
    → 1 ≤ slots
    → ¬ (HasRoom set.sporadics (cycle_of set) (scene_of set (cycle_of set) h) slots within)
    → let scene = scene_of set (cycle_of set) h in
    LeavesNone
    set
    (cycle_of set)
    h
    slots
    within
    (densest_until set scene (horizon (cycle_of set) scene.time))

-- room gives a schedule from any scene that keeps its bounds up to its horizon: for an offer in
-- reach, with the jobs of the scene and those of any legal pattern, in rows above those of the jobs
abbrev pub RoomGivesASchedule : Type 0
RoomGivesASchedule =
    (set : TaskSet) (scene : Scene) (row slots within : ℕ)
    → is_sound set ≡ true → IsFeasible set (cycle_of set)
    → KeepsBounds set (cycle_of set) (scene.time / cycle_of set + 3) scene
    → All (λ (j : Job). row_of j.key < row) scene.jobs
    → 1 ≤ slots → 1 ≤ within → within ≤ cycle_of set
    → HasRoom set.sporadics (cycle_of set) scene slots within
    → CanBeServed
    set
    (cycle_of set)
    scene
    (row + 1)
    (offered_job row scene.time slots within ∷ [])

-- so the offers of every legal history are answered exactly: each that was accepted could be
-- served, and in reach one was refused exactly where some legal pattern left no slot schedule
abbrev pub OffersAreAlwaysExact : Type 0
OffersAreAlwaysExact =
    (set : TaskSet) (h : History)
    → is_sound set ≡ true → IsFeasible set (cycle_of set) → IsLegal set (cycle_of set) h
    → OffersAreExact set (cycle_of set) h
