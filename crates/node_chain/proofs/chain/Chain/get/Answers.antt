use Rattle.std.proofs.Common.{ap, sym, Some, ◌∙◌}
use Rattle.node_chain.specs.declared.block.Node.{Node}
use Rattle.node_chain.specs.Links.{order}
use Rattle.node_chain.specs.Chains.{Chained, span_at}
use Rattle.node_chain.proofs.Kept.{listed-place, order-inside}
use Rattle.node_chain.proofs.Pairs.{place-span}
use Rattle.node_chain.proofs.chain.Chain.get.Goals as goal

pub node-requires : goal.node-requires
node-requires g c =
    let s = c.self.inside in let i = c.requires.0 in
    let place = listed-place s.block s.len c.args.self.now.pairs (ap (λ (v : Chained). v.pairs) c.self.view_is) i c.args.id c.requires.1 in
    order-inside s.block s.free s.len c.self.invariant.0 i c.args.id.0 place

pub returns-clause-span : goal.returns-clause-span
returns-clause-span g c i e =
    let s = c.self.inside in let was = ap (λ (v : Chained). v.pairs) c.self.view_is in
    let place = listed-place s.block s.len c.args.self.now.pairs was i c.args.id e in
    ap (λ ps. span_at ps i) (sym was) ∙ place-span s.block (order s.block s.len) i c.args.id.0 place
    ∙ ap (λ (n : Node). Some n.span) (sym c.node.ensures)
