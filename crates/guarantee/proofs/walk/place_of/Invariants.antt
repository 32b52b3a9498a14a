use Rattle.std.proofs.Common.{◌+◌, ◌≤◌}
use Rattle.interval_row.specs.Changes.{ends_before}
use Rattle.interval_row.specs.Tables.{IsFront}
use Rattle.guarantee.proofs.walk.place_of.Given as goal

-- the spans before this one are due, and all end before the time
abbrev pub invariant-loop-index : goal.invariant-loop-index
invariant-loop-index g l = record {
  front : IsFront (g.T.SpareTable.spans l.table) (record { count = l.index; works = l.due });
  early : l.index ≤ ends_before l.time (g.T.SpareTable.spans l.table);
  rose : l.fn.steps ≤ l.steps;
  steps : l.steps ≤ l.fn.steps + l.index;
}
