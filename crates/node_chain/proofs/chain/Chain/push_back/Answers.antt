use Rattle.std.proofs.Common.{◌+◌, ◌∷◌, ◌++◌, [], ap, arith, length, subst, sym, ◌∙◌}
use Rattle.node_chain.specs.Links.{joined, order, IsLinked}
use Rattle.node_chain.specs.Chains.{Chained, pairs_of, IsListed}
use Rattle.node_chain.specs.Orders.{ids_of}
use Rattle.node_chain.proofs.Orders.{ids_of-push}
use Rattle.node_chain.proofs.Pairs.{named}
use Rattle.node_chain.proofs.Kept.{free-fresh, free-inside, has_room, last-inside, push-Changed}
use Rattle.node_chain.proofs.chain.Chain.push_back.Goals as goal

pub join-self-inside-requires-clause-place : goal.join-self-inside-requires-clause-place
join-self-inside-requires-clause-place g c =
    let s = c.self.inside in
    free-inside s.block s.free s.len c.self.invariant.0 (has_room s.block s.free s.len c.self.invariant.0 c.args.self.now c.self.view_is c.requires)

pub join-self-inside-requires-clause-before : goal.join-self-inside-requires-clause-before
join-self-inside-requires-clause-before g c =
    let s = c.self.inside in
    last-inside s.block s.free s.len c.self.invariant.0 (has_room s.block s.free s.len c.self.invariant.0 c.args.self.now c.self.view_is c.requires) c.args.span

pub invariant_of-self : goal.invariant_of-self
invariant_of-self g c =
    let s = c.self.inside in
    let room = has_room s.block s.free s.len c.self.invariant.0 c.args.self.now c.self.view_is c.requires in
    let done = push-Changed s.block s.free s.len c.self.invariant.0 room c.args.span in
    let old = pairs_of s.block (order s.block s.len) in
    let pairs = ap (λ b. pairs_of b (order b (s.len + 1))) c.join-self-inside.ensures.block ∙ done.pairs in (
      subst (λ b. IsLinked b c.join-self-inside.result (s.len + 1)) (sym c.join-self-inside.ensures.block)
          (subst (λ f. IsLinked (joined s.free 0 c.args.span s.block) f (s.len + 1)) (sym c.join-self-inside.ensures.unused) done.linked),
      record {
        ids = c.push.ensures.items ∙ ap (λ ns. ns ++ named s.free ∷ []) c.self.invariant.1.ids ∙ sym (ap ids_of pairs ∙ ids_of-push old (named s.free, c.args.span));
        fits = omega (arith, c.self.invariant.1.fits, c.push.ensures.places, ap length c.join-self-inside.ensures.block, done.size);
      },
    )

pub returns-clause-span : goal.returns-clause-span
returns-clause-span g c =
    let s = c.self.inside in let was = ap (λ (v : Chained). v.pairs) c.self.view_is in
    let room = has_room s.block s.free s.len c.self.invariant.0 c.args.self.now c.self.view_is c.requires in
    let done = push-Changed s.block s.free s.len c.self.invariant.0 room c.args.span in
    ap (λ b. pairs_of b (order b (s.len + 1))) c.join-self-inside.ensures.block ∙ done.pairs
    ∙ ap (λ ps. ps ++ (named s.free, c.args.span) ∷ []) was

pub returns-clause-fresh : goal.returns-clause-fresh
returns-clause-fresh g c listed =
    let s = c.self.inside in let was = ap (λ (v : Chained). v.pairs) c.self.view_is in
    let room = has_room s.block s.free s.len c.self.invariant.0 c.args.self.now c.self.view_is c.requires in
    free-fresh s.block s.free s.len c.self.invariant.0 room (subst (λ ps. IsListed ps (named s.free)) (sym was) listed)
