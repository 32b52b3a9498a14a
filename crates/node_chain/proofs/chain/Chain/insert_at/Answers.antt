use Rattle.std.proofs.Common.{◌+◌, ap, arith, length, subst, sym, ◌∙◌}
use Rattle.std.specs.Prelude.{insert}
use Rattle.std.proofs.lemmas.List.{length-map}
use Rattle.slot_core.specs.declared.jobs.Span.{Span}
use Rattle.node_chain.specs.declared.chain.NodeId.{NodeId}
use Rattle.node_chain.specs.Links.{joined, order, IsLinked}
use Rattle.node_chain.specs.Chains.{Chained, pairs_of, IsListed}
use Rattle.node_chain.specs.Orders.{ids_of}
use Rattle.node_chain.proofs.Orders.{ids_of-insert}
use Rattle.node_chain.proofs.Pairs.{named}
use Rattle.node_chain.proofs.Kept.{before-inside, free-fresh, free-inside, has_room, insert-Changed, listed-place, order-inside}
use Rattle.node_chain.proofs.chain.Chain.insert_at.Goals as goal

pub insert-requires-clause-within : goal.insert-requires-clause-within
insert-requires-clause-within g c =
    let ids = ap length c.self.invariant.1.ids ∙ length-map _ (λ (p : NodeId × Span). p.0) ∙ ap (λ (v : Chained). length v.pairs) c.self.view_is in
    omega (arith, c.requires.within, ids)

pub join-self-inside-requires-clause-place : goal.join-self-inside-requires-clause-place
join-self-inside-requires-clause-place g c =
    let s = c.self.inside in
    free-inside s.block s.free s.len c.self.invariant.0 (has_room s.block s.free s.len c.self.invariant.0 c.args.self.now c.self.view_is c.requires.room)

pub join-self-inside-requires-clause-after : goal.join-self-inside-requires-clause-after
join-self-inside-requires-clause-after g c =
    let s = c.self.inside in
    let place = listed-place s.block s.len c.args.self.now.pairs (ap (λ (v : Chained). v.pairs) c.self.view_is) c.args.index c.at-after.result c.at-after.ensures in
    order-inside s.block s.free s.len c.self.invariant.0 c.args.index c.at-after.result.0 place

pub join-self-inside-requires-clause-before : goal.join-self-inside-requires-clause-before
join-self-inside-requires-clause-before g c =
    let s = c.self.inside in
    let room = has_room s.block s.free s.len c.self.invariant.0 c.args.self.now c.self.view_is c.requires.room in
    let place = listed-place s.block s.len c.args.self.now.pairs (ap (λ (v : Chained). v.pairs) c.self.view_is) c.args.index c.at-after.result c.at-after.ensures in
    before-inside s.block s.free s.len c.self.invariant.0 room c.args.index c.at-after.result.0 c.args.span place

pub invariant_of-self : goal.invariant_of-self
invariant_of-self g c =
    let s = c.self.inside in let i = c.args.index in let after = c.at-after.result.0 in
    let room = has_room s.block s.free s.len c.self.invariant.0 c.args.self.now c.self.view_is c.requires.room in
    let place = listed-place s.block s.len c.args.self.now.pairs (ap (λ (v : Chained). v.pairs) c.self.view_is) i c.at-after.result c.at-after.ensures in
    let done = insert-Changed s.block s.free s.len c.self.invariant.0 room i after c.args.span place in
    let old = pairs_of s.block (order s.block s.len) in
    let pairs = ap (λ b. pairs_of b (order b (s.len + 1))) c.join-self-inside.ensures.block ∙ done.pairs in (
      subst (λ b. IsLinked b c.join-self-inside.result (s.len + 1)) (sym c.join-self-inside.ensures.block)
          (subst (λ f. IsLinked (joined s.free after c.args.span s.block) f (s.len + 1)) (sym c.join-self-inside.ensures.unused) done.linked),
      record {
        ids = c.insert.ensures.items ∙ ap (λ ns. insert ns i (named s.free)) c.self.invariant.1.ids ∙ sym (ap ids_of pairs ∙ ids_of-insert old i (named s.free, c.args.span));
        fits = omega (arith, c.self.invariant.1.fits, c.insert.ensures.places, ap length c.join-self-inside.ensures.block, done.size);
      },
    )

pub returns-clause-span : goal.returns-clause-span
returns-clause-span g c =
    let s = c.self.inside in let was = ap (λ (v : Chained). v.pairs) c.self.view_is in
    let room = has_room s.block s.free s.len c.self.invariant.0 c.args.self.now c.self.view_is c.requires.room in
    let place = listed-place s.block s.len c.args.self.now.pairs was c.args.index c.at-after.result c.at-after.ensures in
    let done = insert-Changed s.block s.free s.len c.self.invariant.0 room c.args.index c.at-after.result.0 c.args.span place in
    ap (λ b. pairs_of b (order b (s.len + 1))) c.join-self-inside.ensures.block ∙ done.pairs
    ∙ ap (λ ps. insert ps c.args.index (named s.free, c.args.span)) was

pub returns-clause-fresh : goal.returns-clause-fresh
returns-clause-fresh g c listed =
    let s = c.self.inside in let was = ap (λ (v : Chained). v.pairs) c.self.view_is in
    let room = has_room s.block s.free s.len c.self.invariant.0 c.args.self.now c.self.view_is c.requires.room in
    free-fresh s.block s.free s.len c.self.invariant.0 room (subst (λ ps. IsListed ps (named s.free)) (sym was) listed)
