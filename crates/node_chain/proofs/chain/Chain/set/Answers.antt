use Rattle.std.proofs.Common.{ap, arith, length, subst, sym, slice_set, ◌∙◌}
use Rattle.node_chain.specs.Links.{order, IsLinked}
use Rattle.node_chain.specs.Chains.{id_at, Chained, pairs_of}
use Rattle.node_chain.specs.Orders.{ids_of}
use Rattle.node_chain.proofs.Orders.{ids_of-set}
use Rattle.node_chain.proofs.Kept.{listed-place, order-inside, set-Changed}
use Rattle.node_chain.proofs.chain.Chain.set.Goals as goal

pub set_span-requires : goal.set_span-requires
set_span-requires g c =
    let s = c.self.inside in let i = c.requires.0 in
    let place = listed-place s.block s.len c.args.self.now.pairs (ap (λ (v : Chained). v.pairs) c.self.view_is) i c.args.id c.requires.1 in
    order-inside s.block s.free s.len c.self.invariant.0 i c.args.id.0 place

pub invariant_of-self : goal.invariant_of-self
invariant_of-self g c =
    let s = c.self.inside in let i = c.requires.0 in
    let place = listed-place s.block s.len c.args.self.now.pairs (ap (λ (v : Chained). v.pairs) c.self.view_is) i c.args.id c.requires.1 in
    let done = set-Changed s.block s.free s.len c.self.invariant.0 i c.args.id.0 c.args.span place in
    let here = ap (λ ps. id_at ps i) (ap (λ (v : Chained). v.pairs) c.self.view_is) ∙ c.requires.1 in
    let pairs = ap (λ b. pairs_of b (order b s.len)) c.set_span.ensures ∙ done.pairs in (
      subst (λ b. IsLinked b s.free s.len) (sym c.set_span.ensures) done.linked,
      record {
        ids = c.self.invariant.1.ids ∙ sym (ap ids_of pairs ∙ ids_of-set (pairs_of s.block (order s.block s.len)) i c.args.id c.args.span here);
        fits = omega (arith, c.self.invariant.1.fits, ap length c.set_span.ensures, done.size);
      },
    )

pub returns-clause-span : goal.returns-clause-span
returns-clause-span g c i e =
    let s = c.self.inside in let was = ap (λ (v : Chained). v.pairs) c.self.view_is in
    let place = listed-place s.block s.len c.args.self.now.pairs was i c.args.id e in
    let done = set-Changed s.block s.free s.len c.self.invariant.0 i c.args.id.0 c.args.span place in
    ap (λ b. pairs_of b (order b s.len)) c.set_span.ensures ∙ done.pairs
    ∙ ap (λ ps. slice_set ps i (c.args.id, c.args.span)) was
