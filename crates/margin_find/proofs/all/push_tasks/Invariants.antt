use Rattle.std.proofs.Common.{◌≡◌, ℕ, ◌++◌, drop, map}
use Rattle.std.specs.List.{enumerate_from}
use Rattle.slot_core.specs.declared.faults.Part.TheVariants.{Task as TaskPart}
use Rattle.slot_core.specs.declared.tasks.Task.{Task}
use Rattle.margin_find.specs.Margins.{graph_parts}
use Rattle.margin_find.proofs.all.push_tasks.Given as goal

abbrev pub invariant-loop-task : goal.invariant-loop-task
invariant-loop-task l =
    l.parts ++ map (λ (t : ℕ × Task). TaskPart l.index t.0) (enumerate_from l.task (drop l.task l.graph.tasks)) ≡ l.initial.parts ++ graph_parts (l.index, l.graph)
