use Rattle.sporadic_reserve.proofs.Demands.{RisesAt-more, RisesAt-all}
use Rattle.sporadic_reserve.proofs.rates.next_rise.Goals as goal

pub loop-rate-preserved : goal.loop-rate-preserved
loop-rate-preserved c =
    RisesAt-more c.args.rates.now c.loop-rate.rate-index c.args.r c.args.x c.due_after.result c.loop-rate.first c.earlier.result c.requires.rates c.loop-rate-test.true c.loop-rate.invariant c.due_after.ensures c.earlier.ensures

pub returns : goal.returns
returns c =
    RisesAt-all c.args.rates.now c.loop-rate.rate-index c.args.r c.args.x c.loop-rate.first c.loop-rate-test.false c.loop-rate.auto.rate-index-end c.loop-rate.invariant
