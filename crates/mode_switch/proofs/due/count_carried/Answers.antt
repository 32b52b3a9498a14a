-- One more job is counted.
use Rattle.std.proofs.Common.{arith}
use Rattle.mode_switch.proofs.DueSums.{work_by-since}
use Rattle.mode_switch.proofs.due.count_carried.Goals as goal

pub count-requires : goal.count-requires
count-requires c = omega (arith, c.loop-job.invariant.small, c.requires.small, c.requires.few)

pub loop-job-preserved : goal.loop-job-preserved
loop-job-preserved c =
    let inv = c.loop-job.invariant in
    let counted = c.count.ensures in
    record {
      len = omega (arith, counted.len, inv.len);
      sums = λ x short.
          omega (arith, counted.sums x (omega (arith, inv.len)), inv.sums x short, work_by-since c.args.at c.args.carried.now c.loop-job.job-index x _ c.saturating_sub.result (omega arith) c.saturating_sub.ensures);
      small = omega (arith, counted.small, inv.small);
    }
