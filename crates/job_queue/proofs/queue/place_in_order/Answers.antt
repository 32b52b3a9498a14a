use Rattle.std.proofs.Common.{◌-◌, length, sym, arith}
use Rattle.std.proofs.lemmas.List.{get_or_default}
use Rattle.job_queue.proofs.Comes.{is_earlier-behind}
use Rattle.job_queue.proofs.queue.place_in_order.Goals as goal

pub loop-behind-preserved : goal.loop-behind-preserved
loop-behind-preserved g c =
    let come = c.args.come.now in
    let last = length come - c.loop-behind.behind - 1 in
    record {
      behind = λ i d from below.
          is_earlier-behind come last i _ c.args.job.now d c.requires.order (omega arith) (get_or_default come last _ _ (omega arith)) (sym c.if-not-is_earlier.ensures) (omega arith) below;
      counted = omega arith;
    }
