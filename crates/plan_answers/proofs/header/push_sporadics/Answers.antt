use Rattle.std.proofs.Common.{◌++◌}
use Rattle.std.specs.Prelude.{flat_map}
use Rattle.std.specs.List.{enumerate_from}
use Rattle.plan_answers.specs.Headers.{sporadic_lines}
use Rattle.plan_answers.proofs.Insides.{items-more}
use Rattle.plan_answers.proofs.header.push_sporadics.Goals as goal

pub loop-index-preserved : goal.loop-index-preserved
loop-index-preserved c =
    let all = c.args.text.now.items ++ flat_map sporadic_lines (enumerate_from 0 c.args.sporadics.now) in
    items-more sporadic_lines c.loop-index.text.items c.push_sporadic.new.text.items all c.args.sporadics.now c.loop-index.index c.index-sporadics-index.result c.loop-index-test.true c.index-sporadics-index.is c.loop-index.invariant c.in_ok-push_sporadic.ensures
