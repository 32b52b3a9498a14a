-- What the answers mean.
use Rattle.std.specs.Prelude.{◌≡◌, ℕ, ◌+◌, ◌-◌, ◌*◌, ◌<◌, ◌≤◌, true, Some, slice_get, sum_by}
use Rattle.std.specs.Option.{option_map_or}
use Rattle.slot_core.specs.declared.jobs.Job.{Job}
use Rattle.slot_core.specs.declared.jobs.Window.{Window}
use Rattle.slot_core.specs.declared.tasks.Sporadic.{Sporadic}
use Rattle.slot_core.specs.declared.tasks.TaskSet.{TaskSet}
use Rattle.slot_core.specs.Claims.Futures.{CyclesCanBeServed, DensestLeavesNone}
use Rattle.slot_core.specs.Feasibility.Feasible.{counterexample, demand}
use Rattle.slot_core.specs.Sets.Cycles.{cycle_of}
use Rattle.slot_core.specs.Sets.Ranges.{is_sound}
use Rattle.plan_answers.specs.Loads.{planned_load, reserved_load}
use Rattle.plan_answers.specs.Tightest.{tightest}
use Rattle.plan_answers.specs.Who.{arrivals_inside, jobs_inside}

-- the sums of a load are the demand of the whole cycle
abbrev pub LoadAddsUp : Type 0
LoadAddsUp =
    (set : TaskSet) (cycle : ℕ) → is_sound set ≡ true
    → planned_load set cycle + reserved_load set cycle ≡ demand set cycle 0 cycle

-- the slots of an arrival, a sporadic task of the set and a time
abbrev pub arrival_slots : TaskSet → ℕ × ℕ → ℕ
arrival_slots set (index, time) =
    option_map_or (λ (s : Sporadic). s.wcet) (slice_get set.sporadics index) 0

-- the jobs and the arrivals inside a window add up to its demand
abbrev pub WhoAddsUp : Type 0
WhoAddsUp =
    (set : TaskSet) (w : Window)
    → sum_by (λ (j : Job). j.declared) (jobs_inside set w)
    + sum_by (arrival_slots set) (arrivals_inside set w)
    ≡ demand set (cycle_of set) w.from w.until

-- no slot schedule serves them, whatever the scheduler: three cycles of a set with a window that
-- fails cannot be served, and the densest arrivals from the start of the window on show it
abbrev pub WhoIsUnserved : Type 0
WhoIsUnserved =
    (set : TaskSet) (w : Window) → is_sound set ≡ true
    → counterexample set (cycle_of set) ≡ Some w
    → ¬ (CyclesCanBeServed set 3) × DensestLeavesNone set w.from

-- no window in which some slots are needed has less slack than the tightest, where the whole cycle
-- fits
abbrev pub TightestIsLeast : Type 0
TightestIsLeast =
    (set : TaskSet) (cycle : ℕ) (w : Window) → demand set cycle 0 cycle ≤ cycle
    → tightest set cycle ≡ Some w → (a b : ℕ) → a < cycle → a < b → b ≤ 2 * cycle
    → 0 < demand set cycle a b
    → (w.until - w.from) + demand set cycle a b ≤ (b - a) + w.demand
