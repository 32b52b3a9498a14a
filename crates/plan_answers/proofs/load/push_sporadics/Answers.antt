use Rattle.plan_answers.specs.Loads.{sporadic_line}
use Rattle.plan_answers.proofs.Insides.{lines-more}
use Rattle.plan_answers.proofs.load.push_sporadics.Goals as goal

pub loop-sporadic-preserved : goal.loop-sporadic-preserved
loop-sporadic-preserved c =
    lines-more (sporadic_line c.args.cycle) c.args.text.now.items c.loop-sporadic.text.items c.push_sporadic.new.text.items c.args.sporadics.now c.loop-sporadic.sporadic-index c.sporadic-item.result c.loop-sporadic-test.true c.sporadic-item.is c.loop-sporadic.invariant c.in_ok-push_sporadic.ensures
