use Rattle.table_codec.specs.Grammar.{index_form}
use Rattle.table_codec.proofs.WrittenSteps.{writes_at}
use Rattle.table_codec.proofs.writer.put_after.Goals as goal

pub loop-task-preserved : goal.loop-task-preserved
loop-task-preserved c =
    writes_at index_form.written c.args.after.now c.loop-task.task-index _ c.args.out.now.items c.loop-task.out.items c.put_index.new.out.items c.loop-task-test.true c.loop-task.invariant c.in_ok-put_index.ensures
