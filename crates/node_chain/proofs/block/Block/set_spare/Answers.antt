use Rattle.std.proofs.Common.{◌+◌, ℤ, List, ap, arith, length, rules, slice_set, w64, SFits, ◌∙◌}
use Rattle.std.proofs.lemmas.Int.{to_z-of_z}
use Rattle.std.proofs.lemmas.List.{length-set}
use Rattle.std.specs.Int.{cast_unsigned}
use Rattle.node_chain.specs.Words.{nodes_of}
use Rattle.node_chain.specs.Links.{span_of, with_span}
use Rattle.node_chain.specs.declared.block.Node.{Node}
use Rattle.node_chain.proofs.NodeWords.{place-below, spare-put}
use Rattle.node_chain.proofs.block.Block.set_spare.Goals as goal

pub overflow_add-first : goal.overflow_add-first
overflow_add-first c =
    let s = c.self.inside in
    let below = place-below s.words s.count c.args.place c.args.self.now c.self.view_is c.requires in
    omega (arith, below, c.self.invariant.1, c.span_place-first.ensures)

pub put-requires : goal.put-requires
put-requires c =
    let s = c.self.inside in
    let below = place-below s.words s.count c.args.place c.args.self.now c.self.view_is c.requires in
    omega (arith, below, c.self.invariant.0, c.span_place-first.ensures)

pub invariant_of-self : goal.invariant_of-self
invariant_of-self c =
    let s = c.self.inside in
    (ap length c.put.ensures ∙ length-set s.words (c.span_place-first.result + 3) c.cast_unsigned.result ∙ c.self.invariant.0, c.self.invariant.1)

pub returns : goal.returns
returns c =
    let s = c.self.inside in let place = c.args.place in let spare = c.args.spare in
    let below = place-below s.words s.count place c.args.self.now c.self.view_is c.requires in
    let whole : SFits w64 spare = search rules in
    let words = c.put.ensures ∙ ap (λ w. slice_set s.words (c.span_place-first.result + 3) w) c.cast_unsigned.ensures
    ∙ ap (λ (x : ℤ). slice_set s.words (c.span_place-first.result + 3) (cast_unsigned w64 x)) (to_z-of_z w64 spare whole)
    ∙ ap (λ i. slice_set s.words (i + 3) (cast_unsigned w64 spare)) c.span_place-first.ensures in
    ap (λ w. nodes_of w s.count) words
    ∙ spare-put s.words s.count place spare c.self.invariant.0 below whole
    ∙ ap (λ (nodes : List Node). with_span place (record (span_of nodes place) { spare = spare }) nodes) c.self.view_is
