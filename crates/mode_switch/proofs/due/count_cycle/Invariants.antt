-- What the jobs so far have left is counted.
use Rattle.std.proofs.Common.{◌≡◌, ℕ, ◌+◌, ◌*◌, ◌^◌, ◌<◌, ◌≤◌, length, map, sum, take}
use Rattle.slot_core.specs.Offline.OfflineJobs.{later_job}
use Rattle.slot_core.specs.Runs.Demand.{work_by}
use Rattle.mode_switch.specs.DueTables.{sum_to}
use Rattle.mode_switch.proofs.due.count_cycle.Given as goal

abbrev pub invariant-loop-place : goal.invariant-loop-place
invariant-loop-place l = record {
  len : length l.due.items ≡ length l.initial.due.items;
  sums : (x : ℕ) → x < length l.initial.due.items → sum_to l.due.items x ≡ sum_to l.initial.due.items x + work_by (map (later_job l.plan.tasks l.plan.cycle l.n) (take l.place l.plan.jobs)) x;
  small : sum l.due.items ≤ sum l.initial.due.items + l.place * 2 ^ 32;
}
