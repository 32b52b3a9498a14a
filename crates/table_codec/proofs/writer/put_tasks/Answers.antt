use Rattle.table_codec.specs.Grammar.{task_form}
use Rattle.table_codec.proofs.WrittenSteps.{writes_on}
use Rattle.std.proofs.Common.{arith, rules}
use Rattle.std.proofs.lemmas.Grind.{common_steps}
use Rattle.table_codec.proofs.writer.put_tasks.Goals as goal

pub loop-task-preserved : goal.loop-task-preserved
loop-task-preserved c =
    writes_on (task_form c.args.layout 0 0).written c.args.tasks.now c.loop-task.task-index c.task-item.result c.args.out.now.items c.loop-task.out.items c.put_task.new.out.items c.loop-task-test.true c.task-item.is c.loop-task.invariant c.in_ok-put_task.ensures

pub returns-in_err-put_task : goal.returns-in_err-put_task
returns-in_err-put_task c = search rules

pub put_task-requires : goal.put_task-requires
put_task-requires c = grind (arith, common_steps)

pub returns : goal.returns
returns c = grind (arith, common_steps)
