use Rattle.std.proofs.Common.{◌≡◌, ◌*◌, ◌≤◌, arith, get_or}
use Rattle.std.proofs.Math.Nat.{mul-le-mul}
use Rattle.std.proofs.lemmas.List.Sums.{sum_by_more}
use Rattle.slot_core.specs.declared.TheConstants.{HORIZON_LIMIT, SLOT_LIMIT}
use Rattle.sporadic_reserve.proofs.Demands.{demand-all, no_rate, sporadic_demand-grows, IsRate-at, rate_demand, RisesAt-all, RisesAt-more}
use Rattle.sporadic_reserve.proofs.rates.demand_and_rise.Goals as goal

pub loop-rate-preserved : goal.loop-rate-preserved
loop-rate-preserved c =
    let rates = c.args.rates.now in
    let i = c.loop-rate.rate-index in
    let rate = get_or rates i no_rate in
    let is = IsRate-at rates i c.requires.rates c.loop-rate-test.true in
    let product : c.from.result * c.arrivals_due-count.result ≡ rate_demand c.args.r c.args.x rate = cc (c.from.ensures, c.arrivals_due-count.ensures.due) in
    let few : c.from.result * c.arrivals_due-count.result ≤ SLOT_LIMIT * HORIZON_LIMIT = mul-le-mul {n₂ = SLOT_LIMIT} {m₂ = HORIZON_LIMIT} (omega (arith, is.short, c.from.ensures)) (omega (arith, c.arrivals_due-count.ensures.few)) in
    record {
      sum = omega (arith, c.loop-rate.invariant.sum, product, sum_by_more (rate_demand c.args.r c.args.x) rates i no_rate c.loop-rate-test.true);
      small = omega (arith, c.loop-rate.invariant.small, few);
      rise = RisesAt-more rates i c.args.r c.args.x c.due_after.result c.loop-rate.first c.earlier.result c.requires.rates c.loop-rate-test.true c.loop-rate.invariant.rise c.due_after.ensures c.earlier.ensures;
    }

pub returns-clause-demand : goal.returns-clause-demand
returns-clause-demand c =
    let rates = c.args.rates.now in
    demand-all rates c.loop-rate.rate-index c.loop-rate.needed c.args.r c.args.x c.loop-rate-test.false c.loop-rate.invariant.sum

pub returns-clause-most : goal.returns-clause-most
returns-clause-most c z le =
    let rates = c.args.rates.now in
    let all = demand-all rates c.loop-rate.rate-index c.loop-rate.needed c.args.r c.args.x c.loop-rate-test.false c.loop-rate.invariant.sum in
    omega (arith, all, sporadic_demand-grows rates c.args.r c.requires.rates z c.args.x le)

pub returns-clause-rise : goal.returns-clause-rise
returns-clause-rise c =
    RisesAt-all c.args.rates.now c.loop-rate.rate-index c.args.r c.args.x c.loop-rate.first c.loop-rate-test.false c.loop-rate.auto.rate-index-end c.loop-rate.invariant.rise
