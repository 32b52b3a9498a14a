use Rattle.std.proofs.Common.{◌≡◌, ℕ, ◌+◌, ◌<◌, ◌≤◌, false}
use Rattle.slot_core.specs.Feasibility.Sporadics.{sporadic_demand}
use Rattle.slot_core.specs.Runs.Demand.{is_overloaded}
use Rattle.sporadic_reserve.specs.Reserves.{demand_limit}
use Rattle.trace_verify.specs.Dues.{left_before}
use Rattle.trace_verify.specs.Offers.{offer_scene}
use Rattle.trace_verify.proofs.offers.short_from.Given as goal

-- no time so far is short, the work is that due before the next one, and the densest arrivals need
-- no more until they rise
abbrev pub invariant-loop-x : goal.invariant-loop-x
invariant-loop-x l = record {
  passed : (y : ℕ) → l.first ≤ y → y < l.x → is_overloaded l.reserve.sporadics (offer_scene l.now l.jobs l.reserve.nexts) l.slots l.now y ≡ false;
  work : l.work ≡ l.slots + left_before l.jobs l.x;
  flat : (y : ℕ) → l.x ≤ y → y < l.known.1 → sporadic_demand l.reserve.sporadics l.reserve.nexts l.now y ≡ l.known.0;
  small : l.known.0 ≤ demand_limit;
}
