-- Those so far were taken.
use Rattle.std.proofs.Common.{◌≡◌, ℕ, ◌≤◌, ◌<◌, drop, take, Some}
use Rattle.plan_change.specs.SoftWork.{AreTaken}
use Rattle.plan_change.proofs.with_soft.take_soft.Given as goal

abbrev pub invariant-loop-i : goal.invariant-loop-i
invariant-loop-i g l = record {
  low : l.passed ≤ l.i;
  way : AreTaken l.initial.into l.into (drop l.passed (take l.soft l.from.scene.soft)) (drop l.i (take l.soft l.from.scene.soft));
  below : (r : ℕ) → l.row ≡ Some r → l.initial.into.last_row < r → l.into.last_row < r;
}
