use Rattle.std.proofs.Common.{ℕ, Some, get_or, sym, ap, ◌∙◌}
use Rattle.std.specs.Option.{option_map}
use Rattle.slot_core.specs.declared.jobs.Job.{Job}
use Rattle.job_queue.proofs.Searches.{nobody}
use Rattle.job_queue.proofs.queue.JobQueue.find_ready.Goals as goal

pub returns-in_err-place-clause-job : goal.returns-in_err-place-clause-job
returns-in_err-place-clause-job g c =
    let jobs = c.args.self.now.jobs in
    let none = c.place_ready.ensures.place.job nobody ∙ ap (option_map (λ (i : ℕ). get_or jobs i nobody)) c.in_err-place.was in
    c.from_residual.ensures ∙ sym none

pub returns-clause-job : goal.returns-clause-job
returns-clause-job g c =
    let jobs = c.args.self.now.jobs in
    let some = c.place_ready.ensures.place.job c.job.result.now ∙ ap (option_map (λ (i : ℕ). get_or jobs i c.job.result.now)) c.in_ok-place.was in
    ap (λ (j : Job). Some j) c.job.ensures ∙ sym some
