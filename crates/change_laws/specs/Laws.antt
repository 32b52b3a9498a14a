-- The laws of a change of plan.
use Rattle.std.specs.Prelude.{◌≡◌, ◌↔◌, ℕ, ◌+◌, ◌-◌, ◌*◌, ◌≤◌, ◌<◌, true, List, [], Option, Some, None, slice_get}
use Rattle.slot_core.specs.declared.jobs.Job.{Job}
use Rattle.slot_core.specs.declared.jobs.Evidence.{Evidence}
use Rattle.slot_core.specs.declared.tasks.TaskSet.{TaskSet}
use Rattle.slot_core.specs.Sets.Cycles.{cycle_of}
use Rattle.slot_core.specs.Sets.Ranges.{is_sound}
use Rattle.slot_core.specs.Feasibility.Feasible.{IsFeasible}
use Rattle.slot_core.specs.Feasibility.Sporadics.{densest_pattern, IsLegalPattern}
use Rattle.slot_core.specs.Runs.Demand.{work_from}
use Rattle.slot_core.specs.Claims.Schedules.{IsSchedule, HasSchedule}
use Rattle.slot_core.specs.Keeping.Executives.{Executive, IsKept}
use Rattle.change_laws.specs.Carried.{carried_of, cycles_of_change, AreCarried, IsLeastCycles}
use Rattle.change_laws.specs.Grants.{jobs_with, CanChangeFor, CanChange}
use Rattle.change_laws.specs.Demand.{due_after, FitsFor, refusal_of, ShowsNoRoom}
use Rattle.change_laws.specs.Literal.{CanChangeAt, FitsAt, due_at}

-- the number of cycles that is looked at is the least from 3 on that reaches each carried deadline
-- a cycle before its end
abbrev pub TheCyclesAreLeast : Type 0
TheCyclesAreLeast =
    (cycle c row : ℕ) (carried : List Job)
    → 1 ≤ cycle → AreCarried c row carried
    → IsLeastCycles cycle c carried (cycles_of_change cycle c carried)

-- the firm and sporadic jobs of any executive may be carried over at its time
abbrev pub WhatRemainsIsCarried : Type 0
WhatRemainsIsCarried =
    (exec : Executive) → IsKept exec
    → AreCarried exec.scene.time exec.last_row (carried_of exec.scene.jobs)

-- a change can be served, for any number of cycles, exactly where at no time up to their end more
-- is due than there are slots
abbrev pub ChangesAreExact : Type 0
ChangesAreExact =
    (set : TaskSet) (c row cycles : ℕ) (carried : List Job)
    → is_sound set ≡ true → IsFeasible set (cycle_of set) → AreCarried c row carried
    → (CanChangeFor set c carried (row + 1) cycles ↔ FitsFor set c carried cycles)

-- so it is refused exactly where it cannot be served, by a true evidence: the least time that has
-- no room, and there is one evidence alone
abbrev pub RefusalsAreExact : Type 0
RefusalsAreExact =
    (set : TaskSet) (c row : ℕ) (carried : List Job)
    → is_sound set ≡ true → IsFeasible set (cycle_of set) → AreCarried c row carried
    → ((refusal_of set c carried ≡ None) ↔ CanChange set c carried (row + 1))
    × ((e : Evidence) → ((refusal_of set c carried ≡ Some e) ↔ ShowsNoRoom set c carried e))

-- where it is refused, the densest arrivals from the change on that are due by the time of the
-- evidence are legal, and leave no slot schedule
abbrev pub TheDensestPatternShowsNoRoom : Type 0
TheDensestPatternShowsNoRoom =
    (set : TaskSet) (c row : ℕ) (carried : List Job) (e : Evidence)
    → is_sound set ≡ true → AreCarried c row carried
    → refusal_of set c carried ≡ Some e
    → let cycles = cycles_of_change (cycle_of set) c carried in
    let pattern = densest_pattern 0 set.sporadics [] 0 (e.until - c) in
    IsLegalPattern set.sporadics [] 0 pattern
    × ¬ (HasSchedule
    set
    (jobs_with set c carried (row + 1) cycles pattern)
    0
    (cycles * cycle_of set))

-- what fits up to the end of the cycles that are looked at fits for ever
abbrev pub FitsForEver : Type 0
FitsForEver =
    (set : TaskSet) (c row cycles : ℕ) (carried : List Job)
    → is_sound set ≡ true → IsFeasible set (cycle_of set) → AreCarried c row carried
    → FitsFor set c carried (cycles_of_change (cycle_of set) c carried)
    → FitsFor set c carried cycles

-- so a change that can be served can be for any number of cycles
abbrev pub ChangesCanBeServedForEver : Type 0
ChangesCanBeServedForEver =
    (set : TaskSet) (c row cycles : ℕ) (carried : List Job)
    → is_sound set ≡ true → IsFeasible set (cycle_of set) → AreCarried c row carried
    → CanChange set c carried (row + 1)
    → CanChangeFor set c carried (row + 1) cycles

-- in every slot schedule after a change each slot of a job lies in its derived window
abbrev pub SlotsLieInDerivedWindows : Type 0
SlotsLieInDerivedWindows =
    (set : TaskSet) (c row cycles u n : ℕ) (carried : List Job) (pattern : List (ℕ × ℕ))
    (slots : List (Option ℕ)) (job : Job)
    → is_sound set ≡ true → AreCarried c row carried
    → IsLegalPattern set.sporadics [] 0 pattern
    → IsSchedule
    set
    (jobs_with set c carried (row + 1) cycles pattern)
    0
    (cycles * cycle_of set)
    slots
    → slice_get slots u ≡ Some (Some n)
    → slice_get (jobs_with set c carried (row + 1) cycles pattern) n ≡ Some job
    → (job.est ≤ u) × (u < job.dl)

-- so the jobs that start at or after a and are due by x have no more slots than lie between
abbrev pub AScheduleFitsEachWindow : Type 0
AScheduleFitsEachWindow =
    (set : TaskSet) (c row cycles a x : ℕ) (carried : List Job) (pattern : List (ℕ × ℕ))
    → is_sound set ≡ true → AreCarried c row carried
    → IsLegalPattern set.sporadics [] 0 pattern
    → x ≤ cycles * cycle_of set
    → let jobs = jobs_with set c carried (row + 1) cycles pattern in
    HasSchedule set jobs 0 (cycles * cycle_of set)
    → work_from jobs a x ≤ x - a

-- with no time shifted it is the same: the change can be served exactly where it can be with times
-- counted from it, and exactly where the work due from it on fits; as much is due by each time
abbrev pub ChangesAtAreExact : Type 0
ChangesAtAreExact =
    (set : TaskSet) (c row cycles : ℕ) (carried : List Job)
    → is_sound set ≡ true → IsFeasible set (cycle_of set) → AreCarried c row carried
    → (CanChangeAt set c carried (row + 1) cycles ↔ CanChangeFor set c carried (row + 1) cycles)
    × (CanChangeAt set c carried (row + 1) cycles ↔ FitsAt set c carried cycles)
    × ((x : ℕ) → due_at set c carried cycles (c + x) ≡ due_after set c carried cycles x)
