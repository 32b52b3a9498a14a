use Rattle.std.proofs.Common.{◌≡◌, take}
use Rattle.std.specs.Prelude.{sum_by}
use Rattle.slot_core.specs.declared.jobs.Job.{Job}
use Rattle.library_tests.proofs.verdicts.declared_slots.Given as goal

abbrev pub invariant-loop-job : goal.invariant-loop-job
invariant-loop-job l = l.slots ≡ sum_by (λ (j : Job). j.declared) (take l.job-index l.jobs)
