use Rattle.std.proofs.Common.{◌≡◌, ◌++◌, take}
use Rattle.std.specs.Prelude.{flat_map}
use Rattle.slot_core.specs.declared.tasks.Task.{Task}
use Rattle.task_rows.specs.Marks.{row_of_task, task_marks}
use Rattle.task_rows.proofs.marks.push_graph.Given as goal

abbrev pub invariant-loop-task : goal.invariant-loop-task
invariant-loop-task l =
    l.marks.items ≡ l.initial.marks.items ++ flat_map (λ (task : Task). task_marks l.graph l.edges (row_of_task l.rows l.graph task)) (take l.task-index l.task-items)
