use Rattle.std.proofs.Common.{arith}
use Rattle.slot_exec.proofs.AheadRooms.{free-more, free-one}
use Rattle.slot_exec.proofs.ahead.slots_free.Goals as goal

pub loop-taken-init : goal.loop-taken-init
loop-taken-init g c =
    record {
      some = omega arith;
      few = c.requires.some;
      free = free-one (g.T.SpareTable.spans c.args.table.now) c.args.reserve.now (g.T.SpareTable.time c.args.table.now) c.requires.fits;
      steps = omega arith;
    }

pub loop-taken-preserved : goal.loop-taken-preserved
loop-taken-preserved g c =
    let taken = c.loop-taken.taken in
    let more = c.soft_slots-more.result in
    record {
      some = omega arith;
      few = omega arith;
      free = free-more (g.T.SpareTable.spans c.args.table.now) c.args.reserve.now (g.T.SpareTable.time c.args.table.now) taken more _ c.loop-taken.invariant.free (c.soft_slots-more.ensures.leaves (omega arith)) (omega arith);
      steps = omega arith;
    }
