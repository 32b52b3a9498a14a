use Rattle.std.proofs.Common.{◌+◌}
use Rattle.plan_answers.specs.Who.{arrived_lines}
use Rattle.plan_answers.proofs.Insides.{lines-more}
use Rattle.plan_answers.proofs.who.push_arrivals.Goals as goal

pub loop-sporadic-preserved : goal.loop-sporadic-preserved
loop-sporadic-preserved c =
    lines-more (arrived_lines c.args.from (c.args.from + c.args.slots)) c.args.text.now.items c.loop-sporadic.text.items c.push_arrived.new.text.items c.args.sporadics.now c.loop-sporadic.sporadic-index c.sporadic-item.result c.loop-sporadic-test.true c.sporadic-item.is c.loop-sporadic.invariant c.in_ok-push_arrived.ensures
