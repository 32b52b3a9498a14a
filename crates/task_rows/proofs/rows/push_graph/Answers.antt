use Rattle.std.proofs.Common.{[], ◌∷◌, ◌++◌, ap, ◌∙◌}
use Rattle.slot_core.specs.declared.tasks.Task.{Task}
use Rattle.task_rows.specs.Rows.{task_row}
use Rattle.task_rows.proofs.Steps.{map-step}
use Rattle.task_rows.proofs.rows.push_graph.Goals as goal

pub loop-task-preserved : goal.loop-task-preserved
loop-task-preserved c =
    map-step (λ (task : Task). task_row c.args.graph.now.name task.name) c.args.rows.now.items c.loop-task.rows.items _ c.items-task-items.result.now c.loop-task.task-index c.task-item.result c.loop-task-test.true c.task-item.is c.loop-task.invariant (c.in_ok-push.ensures.items ∙ ap (λ row. c.loop-task.rows.items ++ row ∷ []) c.task_row.ensures)
