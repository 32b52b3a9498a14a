use Rattle.std.proofs.Common.{◌+◌, ◌-◌, ◌/◌, sym, arith}
use Rattle.std.proofs.lemmas.List.{get_or_default}
use Rattle.job_queue.proofs.Comes.{is_earlier-behind}
use Rattle.job_queue.proofs.queue.place_before.Goals as goal

pub loop-low-preserved-then-is_earlier : goal.loop-low-preserved-then-is_earlier
loop-low-preserved-then-is_earlier g c =
    let come = c.args.come.now in
    let middle = c.loop-low.low + (c.loop-low.high - c.loop-low.low) / 2 in
    record {
      low_within = omega arith;
      high_within = omega arith;
      behind = λ i d from below.
          is_earlier-behind come middle i _ c.args.job.now d c.requires.order (omega arith) (get_or_default come middle _ _ (omega arith)) (sym c.if-is_earlier.ensures) from below;
      before = c.loop-low.invariant.before;
      counted = omega arith;
    }
