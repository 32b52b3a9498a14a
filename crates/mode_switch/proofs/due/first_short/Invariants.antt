-- What is due by the times so far is summed up, and at each of them what is needed fits.
use Rattle.std.proofs.Common.{◌≡◌, ℕ, ◌<◌, ◌≤◌, sum, take}
use Rattle.mode_switch.specs.DueTables.{needed_by}
use Rattle.mode_switch.proofs.due.first_short.Given as goal

abbrev pub invariant-loop-time : goal.invariant-loop-time
invariant-loop-time l = record {
  summed : l.work ≡ sum (take l.time l.due.items);
  fits : (x : ℕ) → 1 ≤ x → x < l.time → needed_by l.due.items l.reserve x ≤ x;
}
