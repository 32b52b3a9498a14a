use Rattle.std.proofs.Common.{◌≡◌, ◌+◌, ◌*◌, ◌≤◌, map}
use Rattle.slot_core.specs.declared.jobs.Span.{Span}
use Rattle.node_chain.specs.declared.chain.NodeId.{NodeId}
use Rattle.node_chain.specs.Raises.{map_between, pair_lifted_by}
use Rattle.node_chain.proofs.Kept.{Changed}
use Rattle.node_chain.proofs.WalksBack.{AreUpTo, PassOn}
use Rattle.node_chain.proofs.chain.Chain.raise_back.Given as goal

-- the spans from this place on are raised, and each passes on to the one before it
abbrev pub invariant-loop-index : goal.invariant-loop-index
invariant-loop-index g l = record {
  some : 1 ≤ l.index;
  chain : Changed l.initial.self-inside.1.0 l.self-inside.1.0 l.initial.self-inside.1.1.1.0 l.initial.self-inside.1.1.1.1.0
      (map_between (pair_lifted_by l.raise.more) l.index l.from l.fn.self.pairs);
  passed : PassOn l.raise (map (λ (p : NodeId × Span). p.1) l.fn.self.pairs) l.index l.from;
  high : AreUpTo l.raise (map (λ (p : NodeId × Span). p.1) l.fn.self.pairs) l.high l.index l.from;
  steps : l.steps + 2 * l.index ≡ l.fn.steps + 2 * l.from;
}
