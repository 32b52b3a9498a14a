use Rattle.std.proofs.Common.{◌≡◌, ◌+◌, ◌-◌, ◌≤◌}
use Rattle.node_chain.specs.Searches.{works_of_first}
use Rattle.node_chain.proofs.PassedSpans.{ArePassed}
use Rattle.interval_row.proofs.rows.RowsShelf.search.Given as goal

-- the spans up to this one are passed, each in a step
abbrev pub invariant-loop-index : goal.invariant-loop-index
invariant-loop-index g l = record {
  from : l.from ≤ l.index;
  works : l.works ≡ works_of_first l.index l.fn.self.spans;
  passed : ArePassed l.search l.fn.self.spans l.from l.index;
  steps : l.steps ≡ l.fn.steps + (l.index - l.from);
}
