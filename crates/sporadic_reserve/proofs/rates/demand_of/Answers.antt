use Rattle.std.proofs.Common.{arith}
use Rattle.sporadic_reserve.proofs.Demands.{demand-all, sporadic_demand-grows}
use Rattle.sporadic_reserve.proofs.rates.demand_of.Goals as goal

pub returns-clause-demand : goal.returns-clause-demand
returns-clause-demand c =
    let rates = c.args.rates.now in
    demand-all rates c.loop-rate.rate-index c.loop-rate.needed c.args.r c.args.x c.loop-rate-test.false c.loop-rate.invariant.sum

pub returns-clause-most : goal.returns-clause-most
returns-clause-most c z le =
    let rates = c.args.rates.now in
    let all = demand-all rates c.loop-rate.rate-index c.loop-rate.needed c.args.r c.args.x c.loop-rate-test.false c.loop-rate.invariant.sum in
    omega (arith, all, sporadic_demand-grows rates c.args.r c.requires.rates z c.args.x le)
