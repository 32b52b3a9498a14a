use Rattle.std.proofs.Common.{Some, sym, ap, ◌∙◌}
use Rattle.slot_core.specs.declared.jobs.Job.{Job}
use Rattle.job_queue.proofs.Searches.{find-position, find-no_position}
use Rattle.job_queue.proofs.queue.JobQueue.find.Goals as goal

pub returns-in_err-place-clause-job : goal.returns-in_err-place-clause-job
returns-in_err-place-clause-job g c =
    let place = sym c.place_of.ensures.place ∙ c.in_err-place.was in
    c.from_residual.ensures ∙ sym (find-no_position c.args.key c.args.self.now.jobs place)

pub returns-clause-job : goal.returns-clause-job
returns-clause-job g c =
    let place = sym c.place_of.ensures.place ∙ c.in_ok-place.was in
    ap (λ (j : Job). Some j) c.job.ensures ∙ sym (find-position c.args.key c.args.self.now.jobs c.in_ok-place.place c.job.result.now place)
