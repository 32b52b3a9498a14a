use Rattle.std.proofs.Common.{◌≡◌, ◌*◌, ◌≤◌, take}
use Rattle.std.specs.Prelude.{sum_by}
use Rattle.slot_core.specs.declared.TheConstants.{HORIZON_LIMIT, SLOT_LIMIT}
use Rattle.sporadic_reserve.proofs.Demands.{rate_demand}
use Rattle.sporadic_reserve.proofs.rates.demand_of.Given as goal

abbrev pub invariant-loop-rate : goal.invariant-loop-rate
invariant-loop-rate l = record {
  sum : l.needed ≡ sum_by (rate_demand l.r l.x) (take l.rate-index l.rates);
  small : l.needed ≤ l.rate-index * (SLOT_LIMIT * HORIZON_LIMIT);
}
