-- The distances so far.
use Rattle.std.proofs.Common.{◌≡◌, ◌≤◌, take}
use Rattle.view_stats.specs.Ordered.{distances}
use Rattle.view_stats.proofs.ordered.distances.Given as goal

abbrev pub invariant-loop-i : goal.invariant-loop-i
invariant-loop-i l = record {
  apart : l.apart.items ≡ distances (take l.i l.numbers);
  some : 1 ≤ l.i;
}
