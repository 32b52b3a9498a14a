use Rattle.std.proofs.Common.{◌≤◌}
use Rattle.guarantee.specs.Stretches.{LeavesAllBetween}
use Rattle.guarantee.proofs.search.left_from.Given as goal

-- from the first time on to the end so many slots are left
abbrev pub invariant-loop-first : goal.invariant-loop-first
invariant-loop-first l = record {
  within : l.first ≤ l.end;
  all : LeavesAllBetween l.reserve l.ask l.due l.left l.first l.end;
}

abbrev pub decreases-loop-first : goal.decreases-loop-first
decreases-loop-first l = l.first
