use Rattle.std.proofs.Common.{◌≡◌, ap, slice_get, Some, subst, sym, ◌∙◌}
use Rattle.std.specs.Prelude.{insert}
use Rattle.node_chain.specs.Chains.{id_at, Chained, IsChain}
use Rattle.node_chain.proofs.Kept.{is_chain}
use Rattle.node_chain.proofs.chain.Chain.insert_before.Goals as goal

pub index_of-index-requires : goal.index_of-index-requires
index_of-index-requires g c =
    let i = c.requires.listed.0 in
    (i, ap (λ ns. slice_get ns i) c.self.invariant.1.ids ∙ ap (λ ps. id_at ps i) (ap (λ (v : Chained). v.pairs) c.self.view_is) ∙ c.requires.listed.1)

-- the index is the one place of the id
pub returns-clause-span : goal.returns-clause-span
returns-clause-span g c i e =
    let s = c.self.inside in let k = c.index_of-index.result in
    let chain = subst (λ (v : Chained). IsChain v.pairs v.capacity) c.self.view_is (is_chain s.block s.free s.len c.self.invariant.0) in
    let here : id_at c.args.self.now.pairs k ≡ Some c.args.id = sym (ap (λ ns. slice_get ns k) c.self.invariant.1.ids ∙ ap (λ ps. id_at ps k) (ap (λ (v : Chained). v.pairs) c.self.view_is)) ∙ c.index_of-index.ensures in
    c.insert_at.ensures.span ∙ ap (λ n. insert c.args.self.now.pairs n (c.insert_at.result, c.args.span)) (chain.distinct c.args.id k i here e)
