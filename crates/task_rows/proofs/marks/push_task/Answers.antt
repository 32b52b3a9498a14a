use Rattle.std.proofs.Common.{◌+◌}
use Rattle.task_rows.specs.Marks.{window_marks}
use Rattle.task_rows.proofs.Steps.{range-step}
use Rattle.task_rows.proofs.marks.push_task.Goals as goal

pub loop-n-preserved : goal.loop-n-preserved
loop-n-preserved c =
    range-step (λ n. window_marks c.args.graph.now c.args.row (c.first_instance-first.result + n)) c.args.marks.now.items c.loop-n.marks.items c.push_window.new.marks.items c.loop-n.n c.loop-n.invariant c.in_ok-push_window.ensures
