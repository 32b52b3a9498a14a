-- The arrivals so far, and those from the next time on.
use Rattle.std.proofs.Common.{◌*◌, ◌≡◌, ◌+◌, ◌-◌, ◌<◌, ◌++◌}
use Rattle.slot_core.specs.declared.TheConstants.{HORIZON_LIMIT}
use Rattle.slot_core.specs.Feasibility.Sporadics.{densest_arrivals}
use Rattle.future_check.proofs.arrivals.push_task.Given as goal

abbrev pub invariant-loop-time : goal.invariant-loop-time
invariant-loop-time l = record {
  listed :
      l.arrivals.items ++ densest_arrivals l.index l.task 0 l.time l.until
      ≡ l.initial.arrivals.items ++ densest_arrivals l.index l.task l.next l.now l.until;
  near : l.time < 2 * HORIZON_LIMIT;
}

-- the slots up to the end
abbrev pub decreases-loop-time : goal.decreases-loop-time
decreases-loop-time l = l.until + 1 - l.time
