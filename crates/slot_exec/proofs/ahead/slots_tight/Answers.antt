use Rattle.std.proofs.Common.{◌≡◌, ◌+◌, ◌-◌, ◌/◌, ap, arith}
use Rattle.slot_core.specs.Feasibility.Sporadics.{sporadic_demand}
use Rattle.slot_exec.proofs.ahead.slots_tight.Goals as goal

pub loop-low-preserved-then-is_tight : goal.loop-low-preserved-then-is_tight
loop-low-preserved-then-is_tight g c =
    let was = c.loop-low.invariant.tight in
    let middle = c.loop-low.high - (c.loop-low.high - c.loop-low.low) / 2 in
    let t = g.T.SpareTable.time c.args.table.now in
    let reserve = c.args.reserve.now in
    let room = c.args.room in
    let from : c.time-now.result + middle ≡ t + middle = omega (arith, c.time-now.ensures) in
    let demand : sporadic_demand reserve.sporadics reserve.nexts (c.time-now.result + middle) room.tight ≡ sporadic_demand reserve.sporadics reserve.nexts (t + middle) room.tight = ap (λ n. sporadic_demand reserve.sporadics reserve.nexts n room.tight) from in
    record {
      some = omega arith;
      between = omega arith;
      few = c.loop-low.invariant.few;
      tight = record {
        after = was.after;
        within = was.within;
        due = was.due;
        short = omega (arith, c.is_tight.ensures c.if-is_tight.true, demand, c.time-now.ensures);
      };
    }
