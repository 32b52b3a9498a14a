-- What the outcome of the cycle test means, over slot schedules. Neither derived windows nor any
-- order of choice occur in it.
use Rattle.std.specs.Prelude.{◌≡◌, ◌↔◌, ℕ, true, Some}
use Rattle.slot_core.specs.declared.jobs.Window.{Window}
use Rattle.slot_core.specs.declared.tasks.TaskSet.{TaskSet}
use Rattle.slot_core.specs.Sets.Cycles.{cycle_of}
use Rattle.slot_core.specs.Sets.Ranges.{is_sound}
use Rattle.slot_core.specs.Feasibility.Feasible.{IsFeasible, counterexample}
use Rattle.slot_core.specs.Claims.Futures.{CyclesCanBeServed, DensestLeavesNone}

-- a set passes exactly where three cycles can be served, whatever legal pattern of arrivals comes
abbrev pub TheVerdictMeansSchedules : Type 0
TheVerdictMeansSchedules =
    (set : TaskSet) → is_sound set ≡ true
    → (IsFeasible set (cycle_of set) ↔ CyclesCanBeServed set 3)

-- and then any number of cycles can be
abbrev pub FeasibleSetsCanBeServedForEver : Type 0
FeasibleSetsCanBeServedForEver =
    (set : TaskSet) (cycles : ℕ)
    → is_sound set ≡ true → IsFeasible set (cycle_of set) → CyclesCanBeServed set cycles

-- where it fails, the densest pattern from the failing window's start leaves no schedule of three
-- cycles
abbrev pub TheDensestPatternShowsTheFailure : Type 0
TheDensestPatternShowsTheFailure =
    (set : TaskSet) (window : Window)
    → is_sound set ≡ true → counterexample set (cycle_of set) ≡ Some window
    → DensestLeavesNone set window.from
