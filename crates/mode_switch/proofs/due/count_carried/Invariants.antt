-- What the jobs so far have left is counted.
use Rattle.std.proofs.Common.{◌≡◌, ℕ, ◌+◌, ◌*◌, ◌^◌, ◌<◌, ◌≤◌, length, map, sum, take}
use Rattle.slot_core.specs.Runs.Demand.{work_by}
use Rattle.change_laws.specs.Carried.{since}
use Rattle.mode_switch.specs.DueTables.{sum_to}
use Rattle.mode_switch.proofs.due.count_carried.Given as goal

abbrev pub invariant-loop-job : goal.invariant-loop-job
invariant-loop-job l = record {
  len : length l.due.items ≡ length l.initial.due.items;
  sums : (x : ℕ) → x < length l.initial.due.items → sum_to l.due.items x ≡ sum_to l.initial.due.items x + work_by (map (since l.at) (take l.job-index l.carried)) x;
  small : sum l.due.items ≤ sum l.initial.due.items + l.job-index * 2 ^ 32;
}
