use Rattle.std.proofs.Common.{sym, arith}
use Rattle.std.specs.Prelude.{reverse}
use Rattle.std.proofs.lemmas.List.{length-reverse}
use Rattle.job_queue.proofs.ReadyPlaces.{IsReadyPlace-test, find-take_other}
use Rattle.job_queue.proofs.queue.place_from_end.Goals as goal

pub returns-then-is_ready-clause-place : goal.returns-then-is_ready-clause-place
returns-then-is_ready-clause-place g c =
    let jobs = c.args.jobs.now in
    IsReadyPlace-test c.args.now c.args.key (reverse jobs) c.loop-place.place c.from_end-job.result.now (omega (arith, length-reverse jobs)) c.from_end-job.ensures (sym c.if-is_ready.ensures) c.loop-place.invariant.passed

pub loop-place-preserved : goal.loop-place-preserved
loop-place-preserved g c =
    let jobs = c.args.jobs.now in
    record {
      passed = find-take_other c.args.now c.args.key (reverse jobs) c.loop-place.place c.from_end-job.result.now (omega (arith, length-reverse jobs)) c.from_end-job.ensures (sym c.if-is_ready.ensures) c.loop-place.invariant.passed;
      counted = omega arith;
    }
