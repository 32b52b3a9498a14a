use Rattle.std.proofs.Common.{◌≡◌, ◌*◌, ◌≤◌, take}
use Rattle.std.specs.Prelude.{sum_by}
use Rattle.slot_core.specs.declared.TheConstants.{SLOT_LIMIT}
use Rattle.sporadic_reserve.specs.declared.rates.Rate.{Rate}
use Rattle.sporadic_reserve.specs.declared.rates.TheConstants.{INVERSE_SCALE}
use Rattle.sporadic_reserve.proofs.Growths.{scaled_growth}
use Rattle.sporadic_reserve.proofs.rates.growth_of.Given as goal

abbrev pub invariant-loop-rate : goal.invariant-loop-rate
invariant-loop-rate l = record {
  scaled : l.growth.scaled ≡ sum_by scaled_growth (take l.rate-index l.rates);
  burst : l.growth.burst ≡ sum_by (λ (rate : Rate). rate.wcet) (take l.rate-index l.rates);
  few : l.growth.scaled ≤ l.rate-index * (SLOT_LIMIT * INVERSE_SCALE);
  short : l.growth.burst ≤ l.rate-index * SLOT_LIMIT;
}
