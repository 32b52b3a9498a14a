-- One more cycle is counted.
use Rattle.std.proofs.Common.{arith}
use Rattle.mode_switch.proofs.DueSums.{work_by-cycles}
use Rattle.mode_switch.proofs.due.count_cycles.Goals as goal

pub loop-n-preserved : goal.loop-n-preserved
loop-n-preserved c =
    let inv = c.loop-n.invariant in
    let counted = c.count_cycle.ensures in
    record {
      len = omega (arith, counted.len, inv.len);
      sums = λ x short.
          omega (arith, counted.sums x (omega (arith, inv.len)), inv.sums x short, work_by-cycles c.args.plan.now.tasks c.args.plan.now.cycle c.loop-n.n x);
      small = omega (arith, counted.small, inv.small);
    }
