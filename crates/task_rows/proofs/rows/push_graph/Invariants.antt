use Rattle.std.proofs.Common.{◌≡◌, ◌++◌, map, take}
use Rattle.slot_core.specs.declared.tasks.Task.{Task}
use Rattle.task_rows.specs.Rows.{task_row}
use Rattle.task_rows.proofs.rows.push_graph.Given as goal

abbrev pub invariant-loop-task : goal.invariant-loop-task
invariant-loop-task l =
    l.rows.items ≡ l.initial.rows.items ++ map (λ (task : Task). task_row l.graph.name task.name) (take l.task-index l.task-items)
