-- The due ones of the jobs so far.
use Rattle.std.proofs.Common.{◌≡◌, ◌++◌, filter, take}
use Rattle.std.specs.Prelude.{nat_le}
use Rattle.slot_core.specs.declared.jobs.Job.{Job}
use Rattle.future_check.proofs.jobs.push_due.Given as goal

abbrev pub invariant-loop-place : goal.invariant-loop-place
invariant-loop-place g l =
    l.jobs.items
    ≡ l.initial.jobs.items
    ++ filter (λ (j : Job). nat_le j.dl l.until) (take l.place l.exec.scene.jobs)
