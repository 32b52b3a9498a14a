-- Every legal history is served and ordered, and every trace is a legal history.
use Rattle.std.specs.Prelude.{◌≡◌, ℕ, true, List, take}
use Rattle.slot_core.specs.declared.tasks.TaskSet.{TaskSet}
use Rattle.slot_core.specs.declared.events.Arrival.{Arrival}
use Rattle.slot_core.specs.Sets.Cycles.{cycle_of}
use Rattle.slot_core.specs.Sets.Ranges.{is_sound}
use Rattle.slot_core.specs.Feasibility.Feasible.{IsFeasible}
use Rattle.slot_core.specs.Runs.Arrivals.{are_fitting}
use Rattle.slot_core.specs.Runs.Histories.{History}
use Rattle.slot_core.specs.Runs.Traces.{trace, history_of, IsLegal}
use Rattle.slot_core.specs.Claims.Service.{IsServed, IsOrdered}

-- every legal history of a feasible set is served and ordered
abbrev pub EveryLegalHistoryIsServed : Type 0
EveryLegalHistoryIsServed =
    (set : TaskSet) (h : History)
    → is_sound set ≡ true → IsFeasible set (cycle_of set) → IsLegal set (cycle_of set) h
    → IsServed set (cycle_of set) h × IsOrdered set (cycle_of set) h

-- the history of each front part of a trace of fitting arrivals is legal
abbrev pub EveryTraceIsLegal : Type 0
EveryTraceIsLegal =
    (set : TaskSet) (arrivals : List Arrival) (n m : ℕ)
    → are_fitting set n arrivals ≡ true
    → IsLegal set (cycle_of set) (history_of (take m (trace set arrivals n)))

-- so every trace of a feasible set and fitting arrivals is served and ordered
abbrev pub EveryTraceIsServed : Type 0
EveryTraceIsServed =
    (set : TaskSet) (arrivals : List Arrival) (n : ℕ)
    → is_sound set ≡ true → IsFeasible set (cycle_of set)
    → are_fitting set n arrivals ≡ true
    → IsServed set (cycle_of set) (history_of (trace set arrivals n))
    × IsOrdered set (cycle_of set) (history_of (trace set arrivals n))
