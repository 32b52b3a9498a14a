-- Every lawful history and trace is served and ordered, and every legal history and trace is
-- lawful.
use Rattle.std.specs.Prelude.{◌≡◌, ℕ, true, List}
use Rattle.slot_core.specs.declared.tasks.TaskSet.{TaskSet}
use Rattle.slot_core.specs.declared.events.Arrival.{Arrival}
use Rattle.slot_core.specs.declared.events.Entry.{Entry}
use Rattle.slot_core.specs.Sets.Cycles.{cycle_of}
use Rattle.slot_core.specs.Sets.Ranges.{is_sound}
use Rattle.slot_core.specs.Feasibility.Feasible.{IsFeasible}
use Rattle.slot_core.specs.Runs.Arrivals.{are_fitting}
use Rattle.slot_core.specs.Runs.Histories.{History}
use Rattle.slot_core.specs.Runs.Traces.{trace, history_of, IsLegal}
use Rattle.slot_core.specs.Claims.Lawful.{IsLawful, IsLawfulTrace}
use Rattle.slot_core.specs.Claims.Service.{IsServed, IsOrdered}

-- every lawful history of a feasible set is served and ordered; in a set that is not feasible a
-- deadline may be cut to 0, and a job that runs in slot 0 has ended in time but ran outside its
-- window
abbrev pub EveryLawfulHistoryIsServed : Type 0
EveryLawfulHistoryIsServed =
    (set : TaskSet) (h : History)
    → is_sound set ≡ true → IsFeasible set (cycle_of set) → IsLawful set (cycle_of set) h
    → IsServed set (cycle_of set) h × IsOrdered set (cycle_of set) h

-- so is every lawful trace of fitting arrivals
abbrev pub EveryLawfulTraceIsServed : Type 0
EveryLawfulTraceIsServed =
    (set : TaskSet) (arrivals : List Arrival) (n : ℕ) (entries : List Entry)
    → is_sound set ≡ true → IsFeasible set (cycle_of set)
    → are_fitting set n arrivals ≡ true → IsLawfulTrace set arrivals n entries
    → IsServed set (cycle_of set) (history_of entries)
    × IsOrdered set (cycle_of set) (history_of entries)

-- every legal history of a feasible set is lawful
abbrev pub EveryLegalHistoryIsLawful : Type 0
EveryLegalHistoryIsLawful =
    (set : TaskSet) (h : History)
    → is_sound set ≡ true → IsFeasible set (cycle_of set) → IsLegal set (cycle_of set) h
    → IsLawful set (cycle_of set) h

-- so the trace of a feasible set and fitting arrivals is a lawful one
abbrev pub EveryTraceIsLawful : Type 0
EveryTraceIsLawful =
    (set : TaskSet) (arrivals : List Arrival) (n : ℕ)
    → is_sound set ≡ true → IsFeasible set (cycle_of set)
    → are_fitting set n arrivals ≡ true
    → IsLawfulTrace set arrivals n (trace set arrivals n)
