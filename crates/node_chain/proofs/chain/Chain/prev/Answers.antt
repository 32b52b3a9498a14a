use Rattle.std.proofs.Common.{◌≡◌, add-one, ap, suc, subst, Some, ◌∙◌}
use Rattle.node_chain.specs.declared.block.Node.{Node}
use Rattle.node_chain.specs.Links.{order}
use Rattle.node_chain.specs.Chains.{Chained, id_at, id_of}
use Rattle.node_chain.proofs.Kept.{listed-place, order-inside, order-no_end}
use Rattle.node_chain.proofs.Pairs.{prev-id}
use Rattle.node_chain.proofs.chain.Chain.prev.Goals as goal

pub node-requires : goal.node-requires
node-requires c =
    let s = c.self.inside in let i = c.requires.0 in
    let place = listed-place s.block s.len c.args.self.now.pairs (ap (λ (v : Chained). v.pairs) c.self.view_is) i c.args.id c.requires.1 in
    order-inside s.block s.free s.len c.self.invariant.0 i c.args.id.0 place

pub returns-clause-before : goal.returns-clause-before
returns-clause-before c i e =
    let s = c.self.inside in let l = c.self.invariant.0 in let was = ap (λ (v : Chained). v.pairs) c.self.view_is in
    let at = subst (λ k. id_at c.args.self.now.pairs k ≡ Some c.args.id) (add-one i) e in
    let place = listed-place s.block s.len c.args.self.now.pairs was (suc i) c.args.id at in
    c.id_of.ensures ∙ ap (λ (n : Node). id_of n.prev) c.node.ensures
    ∙ prev-id s.block 0 (order s.block s.len) i c.args.id.0 0 l.stands.linked (order-no_end s.block s.free s.len l) place
    ∙ ap (λ ps. id_at ps i) was
