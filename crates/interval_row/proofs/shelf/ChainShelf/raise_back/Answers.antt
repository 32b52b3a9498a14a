use Rattle.std.proofs.Common.{ap, refl, ◌∙◌}
use Rattle.slot_core.specs.declared.jobs.Span.{Span}
use Rattle.node_chain.specs.declared.chain.NodeId.{NodeId}
use Rattle.node_chain.specs.Raises.{lifted_by, pair_lifted_by}
use Rattle.interval_row.specs.Stores.{chain_spans}
use Rattle.interval_row.proofs.Stores.{map-between}
use Rattle.interval_row.proofs.shelf.ChainShelf.raise_back.Goals as goal

pub returns-clause-spans : goal.returns-clause-spans
returns-clause-spans g c =
    let more = c.args.raise.more in
    ap chain_spans c.raise_back.ensures.pairs
    ∙ map-between (pair_lifted_by more) (lifted_by more) (λ (p : NodeId × Span). p.1) (λ p. refl) c.raise_back.result.index c.args.from c.args.self.now.pairs
