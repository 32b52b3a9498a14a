-- The lines of the jobs so far are appended.
use Rattle.std.proofs.Common.{◌≡◌, ◌+◌, ◌*◌, ◌++◌, take}
use Rattle.std.specs.Prelude.{flat_map}
use Rattle.slot_core.specs.Offline.OfflineJobs.{later_job}
use Rattle.plan_answers.specs.Who.{inside_line}
use Rattle.plan_answers.proofs.who.push_next.Given as goal

abbrev pub invariant-loop-job : goal.invariant-loop-job
invariant-loop-job l = l.text.items ≡ l.initial.text.items ++ flat_map (λ job. inside_line l.tasks l.window (later_job l.tasks l.cycle 1 job)) (take l.job-index l.jobs)
