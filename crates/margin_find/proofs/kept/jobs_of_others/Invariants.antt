use Rattle.std.proofs.Common.{◌≡◌, take, not}
use Rattle.std.specs.Prelude.{filter}
use Rattle.slot_core.specs.declared.jobs.Job.{Job}
use Rattle.margin_find.specs.Kept.{is_of}
use Rattle.margin_find.proofs.kept.jobs_of_others.Given as goal

abbrev pub invariant-loop-job : goal.invariant-loop-job
invariant-loop-job l =
    l.others.items ≡ filter (λ (j : Job). not (is_of l.graph j.key)) (take l.job-index l.jobs)
