use Rattle.std.proofs.Common.{◌-◌, ap, arith, drop, length, subst, sym, ◌∙◌}
use Rattle.node_chain.specs.declared.block.Node.{Node}
use Rattle.node_chain.specs.Links.{parted, order, IsLinked}
use Rattle.node_chain.specs.Chains.{Chained, pairs_of}
use Rattle.node_chain.specs.Orders.{ids_of}
use Rattle.node_chain.proofs.Orders.{ids_of-drop}
use Rattle.node_chain.proofs.Kept.{has_some, first-inside, second-inside, pop-Changed}
use Rattle.node_chain.proofs.chain.Chain.pop_front.Goals as goal

pub part-node-requires-clause-first : goal.part-node-requires-clause-first
part-node-requires-clause-first g c =
    let s = c.self.inside in
    let some = has_some s.block s.free s.len c.self.invariant.0 c.args.self.now c.self.view_is c.requires in
    first-inside s.block s.free (s.len - 1) (subst (IsLinked s.block s.free) some c.self.invariant.0)

pub part-node-requires-clause-second : goal.part-node-requires-clause-second
part-node-requires-clause-second g c =
    let s = c.self.inside in
    let some = has_some s.block s.free s.len c.self.invariant.0 c.args.self.now c.self.view_is c.requires in
    second-inside s.block s.free (s.len - 1) (subst (IsLinked s.block s.free) some c.self.invariant.0)

pub invariant_of-self : goal.invariant_of-self
invariant_of-self g c =
    let s = c.self.inside in
    let some = has_some s.block s.free s.len c.self.invariant.0 c.args.self.now c.self.view_is c.requires in
    let done = pop-Changed s.block s.free (s.len - 1) (subst (IsLinked s.block s.free) some c.self.invariant.0) in
    let first = ap (λ (n : Node). n.next) c.node-place.ensures in
    let old = pairs_of s.block (order s.block s.len) in
    let pairs = ap (λ b. pairs_of b (order b (s.len - 1))) c.part-node.ensures.block ∙ done.pairs ∙ ap (λ k. drop 1 (pairs_of s.block (order s.block k))) (sym some) in (
      subst (λ b. IsLinked b c.node-place.result.next (s.len - 1)) (sym c.part-node.ensures.block)
          (subst (λ f. IsLinked (parted s.free s.block) f (s.len - 1)) (sym first) done.linked),
      record {
        ids = c.pop_front.ensures.items ∙ ap (λ ns. drop 1 ns) c.self.invariant.1.ids ∙ sym (ap ids_of pairs ∙ ids_of-drop old);
        fits = omega (arith, c.self.invariant.1.fits, c.pop_front.ensures.places, ap length c.part-node.ensures.block, done.size);
      },
    )

pub returns-clause-rest : goal.returns-clause-rest
returns-clause-rest g c =
    let s = c.self.inside in let was = ap (λ (v : Chained). v.pairs) c.self.view_is in
    let some = has_some s.block s.free s.len c.self.invariant.0 c.args.self.now c.self.view_is c.requires in
    let done = pop-Changed s.block s.free (s.len - 1) (subst (IsLinked s.block s.free) some c.self.invariant.0) in
    ap (λ b. pairs_of b (order b (s.len - 1))) c.part-node.ensures.block ∙ done.pairs
    ∙ ap (λ k. drop 1 (pairs_of s.block (order s.block k))) (sym some) ∙ ap (λ ps. drop 1 ps) was
