use Rattle.std.proofs.Common.{◌≡◌, ap, arith, length, suc, ◌∙◌}
use Rattle.node_chain.specs.declared.block.Node.{Node}
use Rattle.node_chain.specs.Links.{order}
use Rattle.node_chain.specs.Chains.{Chained, id_at, id_of}
use Rattle.node_chain.proofs.Kept.{order-length, order-no_end, pairs-length}
use Rattle.node_chain.proofs.Pairs.{last-id}
use Rattle.node_chain.proofs.chain.Chain.last.Goals as goal

pub returns-clause-last : goal.returns-clause-last
returns-clause-last c i e =
    let s = c.self.inside in let l = c.self.invariant.0 in let xs = order s.block s.len in
    let was = ap (λ (v : Chained). length v.pairs) c.self.view_is in
    let long : suc i ≡ length xs = omega (arith, e, was, pairs-length s.block s.free s.len l, order-length s.block s.free s.len l) in
    c.id_of.ensures ∙ ap (λ (n : Node). id_of n.prev) c.node.ensures
    ∙ last-id s.block 0 xs 0 i l.stands.linked (order-no_end s.block s.free s.len l) long
    ∙ ap (λ (v : Chained). id_at v.pairs i) c.self.view_is
