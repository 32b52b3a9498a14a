use Rattle.std.proofs.Common.{◌++◌}
use Rattle.std.specs.Prelude.{flat_map}
use Rattle.std.specs.List.{enumerate_from}
use Rattle.plan_answers.specs.Headers.{task_lines}
use Rattle.plan_answers.proofs.Insides.{items-more}
use Rattle.plan_answers.proofs.header.push_tasks.Goals as goal

pub loop-index-preserved : goal.loop-index-preserved
loop-index-preserved c =
    let all = c.args.text.now.items ++ flat_map (task_lines c.args.graph.now) (enumerate_from 0 c.args.tasks.now) in
    items-more (task_lines c.args.graph.now) c.loop-index.text.items c.push_both.new.text.items all c.args.tasks.now c.loop-index.index c.index-tasks-index.result c.loop-index-test.true c.index-tasks-index.is c.loop-index.invariant c.in_ok-push_both.ensures
