-- One more arrival is listed, as long as one is due.
use Rattle.std.proofs.Common.{arith}
use Rattle.slot_core.specs.declared.TheConstants.{SLOT_LIMIT}
use Rattle.slot_facts.proofs.Sets.Ranges.{bounds, SporadicRanges-from_test}
use Rattle.future_check.proofs.Comings.{listed-all, listed-more}
use Rattle.future_check.proofs.arrivals.push_task.Goals as goal

pub overflow_add-time : goal.overflow_add-time
overflow_add-time c =
    let r = SporadicRanges-from_test c.args.task.now c.requires.in_range in
    omega (arith, c.loop-time.invariant.near, r.deadline, bounds 1 SLOT_LIMIT c.args.task.now.separation r.separation, c.from-within.ensures)

pub loop-time-preserved : goal.loop-time-preserved
loop-time-preserved c =
    let task = c.args.task.now in
    let r = SporadicRanges-from_test task c.requires.in_range in
    let apart = bounds 1 SLOT_LIMIT task.separation r.separation in
    record {
      listed = listed-more c.args.index task c.loop-time.time _ c.args.until c.loop-time.arrivals.items c.push.new.self.items _ apart.0 (omega (arith, c.loop-time-test.true, c.from-within.ensures)) (omega (arith, c.from-apart.ensures)) c.loop-time.invariant.listed c.in_ok-push.ensures.items;
      near = omega (arith, c.loop-time-test.true, c.requires.soon, apart.1, c.from-apart.ensures);
    }

pub returns : goal.returns
returns c =
    listed-all c.args.index c.args.task.now c.loop-time.time c.args.until c.loop-time.arrivals.items _ (omega (arith, c.loop-time-test.false, c.from-within.ensures)) c.loop-time.invariant.listed
