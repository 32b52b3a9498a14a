use Rattle.std.proofs.Common.{◌≡◌, ◌+◌, ◌-◌, ◌≤◌}
use Rattle.node_chain.specs.Searches.{chain_spans, works_of_first}
use Rattle.node_chain.proofs.PassedSpans.{ArePassed}
use Rattle.node_chain.proofs.chain.Chain.search.Given as goal

-- the spans up to this one are passed, each in a step
abbrev pub invariant-loop-index : goal.invariant-loop-index
invariant-loop-index g l = record {
  from : l.from ≤ l.index;
  works : l.works ≡ works_of_first l.index (chain_spans l.fn.self.pairs);
  passed : ArePassed l.search (chain_spans l.fn.self.pairs) l.from l.index;
  steps : l.steps ≡ l.fn.steps + (l.index - l.from);
}
