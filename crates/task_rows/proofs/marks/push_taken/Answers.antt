use Rattle.task_rows.specs.Marks.{line_marks}
use Rattle.task_rows.proofs.Steps.{flat_map-step}
use Rattle.task_rows.proofs.marks.push_taken.Goals as goal

pub loop-line-preserved : goal.loop-line-preserved
loop-line-preserved c =
    flat_map-step (line_marks c.args.rows.now) c.args.marks.now.items c.loop-line.marks.items c.push_line.new.marks.items c.args.lines.now c.loop-line.line-index c.line-item.result c.loop-line-test.true c.line-item.is c.loop-line.invariant c.in_ok-push_line.ensures
