use Rattle.std.proofs.Common.{◌≡◌, ◌*◌, ◌≤◌, ap, ◌∙◌, get_or, arith}
use Rattle.std.specs.Prelude.{sum_by}
use Rattle.std.proofs.Math.Nat.{mul-le-mul}
use Rattle.std.proofs.lemmas.List.{take_all}
use Rattle.std.proofs.lemmas.List.Sums.{sum_by_more}
use Rattle.slot_core.specs.declared.TheConstants.{SLOT_LIMIT}
use Rattle.sporadic_reserve.specs.declared.rates.Rate.{Rate}
use Rattle.sporadic_reserve.specs.declared.rates.TheConstants.{INVERSE_SCALE}
use Rattle.sporadic_reserve.proofs.Demands.{no_rate, IsRate-at}
use Rattle.sporadic_reserve.proofs.Growths.{inverse-few, scaled_growth, sporadic_demand-growth}
use Rattle.sporadic_reserve.proofs.rates.growth_of.Goals as goal

pub loop-rate-preserved : goal.loop-rate-preserved
loop-rate-preserved c =
    let rates = c.args.rates.now in
    let i = c.loop-rate.rate-index in
    let rate = get_or rates i no_rate in
    let is = IsRate-at rates i c.requires.rates c.loop-rate-test.true in
    let product : c.from-wcet.result * rate.inverse ≡ scaled_growth rate = ap (λ n. n * rate.inverse) c.from-wcet.ensures in
    let few : scaled_growth rate ≤ SLOT_LIMIT * INVERSE_SCALE = mul-le-mul {n₂ = SLOT_LIMIT} {m₂ = INVERSE_SCALE} is.short (inverse-few rate is) in
    record {
      scaled = omega (arith, c.loop-rate.invariant.scaled, product, sum_by_more scaled_growth rates i no_rate c.loop-rate-test.true);
      burst = omega (arith, c.loop-rate.invariant.burst, c.from-wcet.ensures, sum_by_more (λ (rate : Rate). rate.wcet) rates i no_rate c.loop-rate-test.true);
      few = omega (arith, c.loop-rate.invariant.few, product, few);
      short = omega (arith, c.loop-rate.invariant.short, c.from-wcet.ensures, is.short);
    }

pub returns : goal.returns
returns c =
    let rates = c.args.rates.now in
    let i = c.loop-rate.rate-index in
    let inv = c.loop-rate.invariant in
    let whole = take_all i rates c.loop-rate-test.false in
    let scaled : c.loop-rate.growth.scaled ≡ sum_by scaled_growth rates = inv.scaled ∙ ap (sum_by scaled_growth) whole in
    let burst : c.loop-rate.growth.burst ≡ sum_by (λ (rate : Rate). rate.wcet) rates = inv.burst ∙ ap (sum_by (λ (rate : Rate). rate.wcet)) whole in
    record {
      most = λ r x y slots le near. rw (scaled, burst) (sporadic_demand-growth rates r x y slots c.requires.rates le near);
      scaled = omega (arith, inv.few, c.loop-rate.auto.rate-index-end, c.requires.few);
      burst = omega (arith, inv.short, c.loop-rate.auto.rate-index-end, c.requires.few);
    }
