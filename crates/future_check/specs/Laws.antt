-- What the shown jobs and arrivals are, what they need, and what they refuse.
use Rattle.std.specs.Prelude.{◌≡◌, ℕ, ◌+◌, ◌-◌, ◌≤◌, ◌<◌, true, filter, nat_le, IsPermutation}
use Rattle.slot_core.specs.declared.events.Firm.TheVariants.{NoRoom}
use Rattle.slot_core.specs.declared.jobs.Evidence.{Evidence}
use Rattle.slot_core.specs.declared.jobs.Job.{Job}
use Rattle.slot_core.specs.declared.tasks.TaskSet.{TaskSet}
use Rattle.slot_core.specs.Claims.Futures.{LeavesNone, densest_until}
use Rattle.slot_core.specs.Feasibility.Feasible.{IsFeasible}
use Rattle.slot_core.specs.Runs.Answers.{firm_answer}
use Rattle.slot_core.specs.Runs.Demand.{need_by}
use Rattle.slot_core.specs.Runs.Histories.{History, time_of}
use Rattle.slot_core.specs.Runs.Scenes.{Scene, horizon, scene_of}
use Rattle.slot_core.specs.Runs.Traces.{IsLegal}
use Rattle.slot_core.specs.Sets.Cycles.{cycle_of}
use Rattle.slot_core.specs.Sets.Ranges.{is_sound}
use Rattle.future_check.specs.Explanations.{shown_jobs, shown_arrivals, shown_slots}

-- all remaining jobs that are due by the time are shown, and all of the densest arrivals that are
-- due by it, each once, and no others
abbrev pub AllIsShown : Type 0
AllIsShown =
    (set : TaskSet) (scene : Scene) (until : ℕ)
    → IsPermutation (filter (λ (j : Job). nat_le j.dl until) scene.jobs) (shown_jobs scene until)
    × IsPermutation (densest_until set scene until) (shown_arrivals set scene until)

-- their slots are what is needed by then
abbrev pub ShownSlotsAreNeeded : Type 0
ShownSlotsAreNeeded =
    (set : TaskSet) (scene : Scene) (until : ℕ)
    → shown_slots set scene until ≡ need_by set.sporadics scene scene.time until

-- where with an offer that is due by then they are more than there are slots, the arrivals are a
-- legal pattern that leaves the remaining jobs and the offer no slot schedule
abbrev pub ShownFuturesRefuse : Type 0
ShownFuturesRefuse =
    (set : TaskSet) (h : History) (slots within until : ℕ)
    → is_sound set ≡ true → IsFeasible set (cycle_of set) → IsLegal set (cycle_of set) h
    → 1 ≤ slots → time_of h + within ≤ until → until ≤ horizon (cycle_of set) (time_of h)
    → let scene = scene_of set (cycle_of set) h in
    until - time_of h < slots + shown_slots set scene until
    → LeavesNone set (cycle_of set) h slots within (densest_until set scene until)

-- the numbers of a refusal add up: what is shown and the offer are what is needed, which is more
-- than the slots from now to the time; that lies between the offer's deadline and the horizon
pub record AddsUp
    (set : TaskSet) (cycle : ℕ) (scene : Scene) (slots within : ℕ) (e : Evidence) : Type 0 where
  pub need : e.need ≡ slots + shown_slots set scene e.until
  pub room : e.room ≡ e.until - scene.time
  pub short : e.room < e.need
  pub due : scene.time + within ≤ e.until
  pub near : e.until ≤ horizon cycle scene.time

-- so it is wherever an offer is refused for want of room
abbrev pub RefusalsAddUp : Type 0
RefusalsAddUp =
    (set : TaskSet) (cycle : ℕ) (scene : Scene) (slots within : ℕ) (e : Evidence)
    → firm_answer set.sporadics cycle scene slots within ≡ NoRoom e
    → AddsUp set cycle scene slots within e
