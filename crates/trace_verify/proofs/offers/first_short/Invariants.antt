use Rattle.std.proofs.Common.{◌≡◌, ℕ, ◌+◌, ◌-◌, ◌<◌, ◌≤◌, ◌^◌, false}
use Rattle.slot_core.specs.Runs.Demand.{is_overloaded}
use Rattle.trace_verify.specs.Dues.{left_before}
use Rattle.trace_verify.specs.Offers.{offer_scene}
use Rattle.trace_verify.proofs.offers.first_short.Given as goal

-- no time so far is short, and the work is that due before the next one
abbrev pub invariant-loop-x : goal.invariant-loop-x
invariant-loop-x l = record {
  from : l.from ≤ l.x;
  near : l.x ≤ 2 ^ 41;
  passed : (y : ℕ) → l.from ≤ y → y < l.x → y ≤ l.end → is_overloaded l.reserve.sporadics (offer_scene l.now l.jobs l.reserve.nexts) l.slots l.now y ≡ false;
  work : l.work ≡ l.slots + left_before l.jobs l.x;
}

abbrev pub decreases-loop-x : goal.decreases-loop-x
decreases-loop-x l = l.end + 1 - l.x
