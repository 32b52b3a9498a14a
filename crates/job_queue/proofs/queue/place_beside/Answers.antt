use Rattle.std.proofs.Common.{sym, arith}
use Rattle.std.proofs.lemmas.List.{get_or_default}
use Rattle.job_queue.proofs.ReadyPlaces.{IsReadyPlace-test, find-take_other}
use Rattle.job_queue.proofs.queue.place_beside.Goals as goal

pub returns-then-is_ready-clause-place : goal.returns-then-is_ready-clause-place
returns-then-is_ready-clause-place g c =
    let jobs = c.args.jobs.now in
    IsReadyPlace-test c.args.now c.args.key jobs c.loop-place.place _ (omega arith) (get_or_default jobs c.loop-place.place _ _ (omega arith)) (sym c.if-is_ready.ensures) c.loop-place.invariant.passed

pub loop-place-preserved : goal.loop-place-preserved
loop-place-preserved g c =
    let jobs = c.args.jobs.now in
    record {
      passed = find-take_other c.args.now c.args.key jobs c.loop-place.place _ (omega arith) (get_or_default jobs c.loop-place.place _ _ (omega arith)) (sym c.if-is_ready.ensures) c.loop-place.invariant.passed;
      counted = omega arith;
    }
