use Rattle.std.proofs.Common.{ap, ◌∙◌}
use Rattle.std.specs.List.{insert, prefix_len}
use Rattle.slot_core.specs.declared.jobs.Job.{Job}
use Rattle.slot_core.specs.Offline.Keys.{is_earlier}
use Rattle.trace_verify.proofs.JobEdits.{insert-with_job}
use Rattle.trace_verify.proofs.jobs.JobList.insert.Goals as goal

pub returns-clause-inserted : goal.returns-clause-inserted
returns-clause-inserted c =
    let jobs = c.self.inside.jobs in
    let count = c.place_for-place.ensures.count ∙ ap (prefix_len (λ (j : Job). is_earlier j c.args.job)) c.items.ensures in
    c.in_ok-insert_at.ensures.inserted ∙ ap (λ n. insert jobs n c.args.job) count ∙ insert-with_job c.args.job jobs ∙ ap (Rattle.slot_core.specs.Keeping.Plans.with_job c.args.job) c.self.view_is
