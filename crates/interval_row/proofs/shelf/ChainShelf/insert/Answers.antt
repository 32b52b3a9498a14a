use Rattle.std.proofs.Common.{ap, ◌∙◌}
use Rattle.slot_core.specs.declared.jobs.Span.{Span}
use Rattle.node_chain.specs.declared.chain.NodeId.{NodeId}
use Rattle.interval_row.specs.Stores.{chain_spans}
use Rattle.interval_row.proofs.Stores.{map-insert}
use Rattle.interval_row.proofs.shelf.ChainShelf.insert.Goals as goal

pub returns-clause-spans : goal.returns-clause-spans
returns-clause-spans g c =
    ap chain_spans c.insert_at-id.ensures.span ∙ map-insert (λ (q : NodeId × Span). q.1) c.args.self.now.pairs c.args.index (c.insert_at-id.result, c.args.span)
