use Rattle.std.proofs.Common.{sym, arith}
use Rattle.job_queue.proofs.Searches.{HasNone-more, position-found, position-none, search_steps-found, search_steps-none}
use Rattle.job_queue.proofs.queue.JobQueue.place_of.Goals as goal

pub loop-place-preserved : goal.loop-place-preserved
loop-place-preserved g c =
    record {
      passed = HasNone-more c.args.key c.args.self.now.jobs c.loop-place.place c.job.result.now (omega arith) c.job.ensures (sym c.if-has_key.ensures) c.loop-place.invariant.passed;
      counted = omega arith;
    }

pub returns-then-has_key : goal.returns-then-has_key
returns-then-has_key g c =
    let jobs = c.args.self.now.jobs in
    let found = position-found c.args.key jobs c.loop-place.place c.job.result.now (omega arith) c.job.ensures c.loop-place.invariant.passed (sym c.if-has_key.ensures) in
    record {
      place = sym found;
      queue = c.len-place-end.ensures.queue;
      steps = omega (arith, search_steps-found c.args.key jobs c.loop-place.place found);
    }

pub returns : goal.returns
returns g c =
    let jobs = c.args.self.now.jobs in
    let none = position-none c.args.key jobs (λ k d low. c.loop-place.invariant.passed k d (omega arith)) in
    record {
      place = sym none;
      queue = c.len-place-end.ensures.queue;
      steps = omega (arith, search_steps-none c.args.key jobs none);
    }
