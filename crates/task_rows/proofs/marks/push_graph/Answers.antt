use Rattle.std.proofs.Common.{◌++◌, ap, ◌∙◌}
use Rattle.slot_core.specs.declared.tasks.Task.{Task}
use Rattle.task_rows.specs.Marks.{row_of_task, task_marks}
use Rattle.task_rows.proofs.Steps.{flat_map-step}
use Rattle.task_rows.proofs.marks.push_graph.Goals as goal

pub loop-task-preserved : goal.loop-task-preserved
loop-task-preserved c =
    let graph = c.args.graph.now in
    let edges = c.args.edges in
    let old = c.loop-task.marks.items in
    flat_map-step (λ (task : Task). task_marks graph edges (row_of_task c.args.rows.now graph task)) c.args.marks.now.items old c.push_task.new.marks.items c.items-task-items.result.now c.loop-task.task-index c.task-item.result c.loop-task-test.true c.task-item.is c.loop-task.invariant (c.in_ok-push_task.ensures ∙ ap (λ row. old ++ task_marks graph edges row) c.row_of_task.ensures)
