-- What the cycles so far ask for is counted.
use Rattle.std.proofs.Common.{◌≡◌, ℕ, ◌+◌, ◌*◌, ◌^◌, ◌<◌, ◌≤◌, length, sum}
use Rattle.slot_core.specs.Offline.OfflineJobs.{offline_jobs}
use Rattle.slot_core.specs.Runs.Demand.{work_by}
use Rattle.mode_switch.specs.DueTables.{sum_to}
use Rattle.mode_switch.proofs.due.count_cycles.Given as goal

abbrev pub invariant-loop-n : goal.invariant-loop-n
invariant-loop-n l = record {
  len : length l.due.items ≡ length l.initial.due.items;
  sums : (x : ℕ) → x < length l.initial.due.items → sum_to l.due.items x ≡ sum_to l.initial.due.items x + work_by (offline_jobs l.plan.tasks l.plan.cycle l.n) x;
  small : sum l.due.items ≤ sum l.initial.due.items + l.n * 2 ^ 45;
}
