use Rattle.std.proofs.Common.{ℕ, ◌+◌, ◌<◌, ◌≤◌, get_or}
use Rattle.slot_core.specs.declared.jobs.Job.{Job}
use Rattle.demand_test.proofs.are_in_order.Given as goal

abbrev pub invariant-loop-place : goal.invariant-loop-place
invariant-loop-place l =
    (k : ℕ) (d : Job) → k + 1 < l.place → (get_or l.jobs k d).est ≤ (get_or l.jobs (k + 1) d).est
