use Rattle.std.proofs.Common.{◌≡◌, drop}
use Rattle.clock_units.specs.Derived.{each, task_of}
use Rattle.clock_units.proofs.EachLoop.{with_before}
use Rattle.clock_units.proofs.derived.tasks_of.Given as goal

abbrev pub invariant-loop-t : goal.invariant-loop-t
invariant-loop-t l =
    each (task_of l.worth l.graph) 0 l.physical ≡ with_before l.tasks (each (task_of l.worth l.graph) l.t (drop l.t l.physical))
