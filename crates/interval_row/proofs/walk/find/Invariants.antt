use Rattle.std.proofs.Common.{◌+◌, ◌≤◌}
use Rattle.interval_row.specs.Spans.{place_of}
use Rattle.interval_row.proofs.walk.find.Given as goal

-- the spans so far end before x
abbrev pub invariant-loop-index : goal.invariant-loop-index
invariant-loop-index g l = record {
  before : l.index ≤ place_of l.x (g.S.Store.spans l.store);
  low : l.fn.steps ≤ l.steps;
  high : l.steps ≤ l.fn.steps + l.index;
}
