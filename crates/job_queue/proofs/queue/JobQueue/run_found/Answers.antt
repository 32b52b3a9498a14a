-- A run of the job at the place where a search finds it.
use Rattle.std.proofs.Common.{sym, ap, ◌∙◌}
use Rattle.std.specs.Prelude.{sum_by}
use Rattle.job_queue.proofs.Runs.{after_run-more, after_run-last}
use Rattle.job_queue.proofs.queue.JobQueue.run_found.Goals as goal

pub returns-then-job-gt1-clause-jobs : goal.returns-then-job-gt1-clause-jobs
returns-then-job-gt1-clause-jobs c = λ f.
    let ran = after_run-more c.args.self.now c.args.key c.args.place c.job.result.now c.requires.queue c.requires.place c.job.ensures c.if-job-gt1.true in
    ap (sum_by f) (c.run_at.ensures.jobs ∙ sym ran)

pub returns-else-job-gt1-clause-jobs : goal.returns-else-job-gt1-clause-jobs
returns-else-job-gt1-clause-jobs c = λ f.
    let ran = after_run-last c.args.self.now c.args.key c.args.place c.job.result.now c.requires.queue c.requires.place c.job.ensures c.if-job-gt1.false in
    c.remove.ensures.jobs f ∙ ap (sum_by f) (sym ran)
