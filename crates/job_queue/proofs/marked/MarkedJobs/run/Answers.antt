use Rattle.std.proofs.Common.{length, ap, ◌∙◌, arith}
use Rattle.job_queue.specs.Marks.{PlacedJobs}
use Rattle.job_queue.specs.Queues.{after_run_at}
use Rattle.job_queue.proofs.Edits.{set-after_run_at}
use Rattle.job_queue.proofs.marked.MarkedJobs.run.Goals as goal

pub returns-clause-items : goal.returns-clause-items
returns-clause-items c =
    let seen = ap (λ (p : PlacedJobs). length p.items) c.self.view_is in
    set-after_run_at c.args.place c.self.inside.jobs.items c.index_mut.result.now (omega arith) c.index_mut.ensures.value ∙ ap (λ (p : PlacedJobs). after_run_at c.args.place p.items) c.self.view_is
