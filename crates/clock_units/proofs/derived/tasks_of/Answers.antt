use Rattle.std.proofs.Common.{arith, rules}
use Rattle.std.proofs.lemmas.Grind.{common_steps}
use Rattle.clock_units.specs.Derived.{task_of}
use Rattle.clock_units.proofs.EachLoop.{each-more}
use Rattle.clock_units.proofs.derived.tasks_of.Goals as goal

pub loop-t-preserved : goal.loop-t-preserved
loop-t-preserved c =
    rw c.in_ok-push.ensures.ok (each-more (task_of c.args.worth c.args.graph) c.args.physical.now c.loop-t.t c.index-physical-t.result _ _ _ c.loop-t-test.true c.index-physical-t.is c.in_ok-task.ensures c.loop-t.invariant)

pub returns-in_err-push : goal.returns-in_err-push
returns-in_err-push c = search rules

pub returns-in_err-task : goal.returns-in_err-task
returns-in_err-task c = grind (arith, common_steps)

pub returns : goal.returns
returns c = grind (arith, common_steps)
