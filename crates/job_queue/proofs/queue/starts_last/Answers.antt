use Rattle.std.proofs.Common.{rules}
use Rattle.std.proofs.lemmas.List.Sorted.{IsNonDecreasingBy-push}
use Rattle.slot_core.specs.declared.jobs.Job.{Job}
use Rattle.job_queue.proofs.queue.starts_last.Goals as goal

pub returns : goal.returns
returns c = λ last.
    IsNonDecreasingBy-push (λ (j : Job). j.est) c.args.listed.now.items c.args.job.now c.requires (λ d some. search rules)
