use Rattle.std.proofs.Common.{sym, arith}
use Rattle.job_queue.proofs.ReadyJobs.{find-take_now}
use Rattle.job_queue.proofs.ReadyPlaces.{IsReadyPlace-found, IsReadyPlace-later}
use Rattle.job_queue.proofs.queue.place_listed.Goals as goal

pub returns-then-now-job-clause-place : goal.returns-then-now-job-clause-place
returns-then-now-job-clause-place g c =
    let jobs = c.args.listed.now.items in
    IsReadyPlace-later c.args.now c.args.key jobs c.loop-place.place c.index-job.result.now c.requires (omega arith) c.index-job.ensures c.if-now-job.true c.loop-place.invariant.passed

pub returns-then-has_key-clause-place : goal.returns-then-has_key-clause-place
returns-then-has_key-clause-place g c =
    let jobs = c.args.listed.now.items in
    IsReadyPlace-found c.args.now c.args.key jobs c.loop-place.place c.index-job.result.now (omega arith) c.index-job.ensures c.if-now-job.false (sym c.if-has_key.ensures) c.loop-place.invariant.passed

pub loop-place-preserved : goal.loop-place-preserved
loop-place-preserved g c =
    let jobs = c.args.listed.now.items in
    record {
      passed = find-take_now c.args.now c.args.key jobs c.loop-place.place c.index-job.result.now (omega arith) c.index-job.ensures c.if-now-job.false (sym c.if-has_key.ensures) c.loop-place.invariant.passed;
      counted = omega arith;
    }
