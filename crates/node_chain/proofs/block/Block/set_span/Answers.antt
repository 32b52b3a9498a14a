use Rattle.std.proofs.Common.{ap, arith, length, rules, w64, SFits, ◌∙◌}
use Rattle.node_chain.specs.Words.{with_span_words, nodes_of}
use Rattle.node_chain.specs.Links.{with_span}
use Rattle.node_chain.proofs.NodeWords.{place-below, length-span_words, span-put}
use Rattle.node_chain.proofs.block.Block.set_span.Goals as goal

pub put_span-requires-clause-words : goal.put_span-requires-clause-words
put_span-requires-clause-words c =
    let s = c.self.inside in
    let below = place-below s.words s.count c.args.place c.args.self.now c.self.view_is c.requires in
    omega (arith, below, c.self.invariant.0, c.span_place.ensures)

pub put_span-requires-clause-small : goal.put_span-requires-clause-small
put_span-requires-clause-small c =
    let s = c.self.inside in
    let below = place-below s.words s.count c.args.place c.args.self.now c.self.view_is c.requires in
    omega (arith, below, c.self.invariant.1, c.span_place.ensures)

pub invariant_of-self : goal.invariant_of-self
invariant_of-self c =
    let s = c.self.inside in
    (ap length c.put_span.ensures ∙ length-span_words s.words c.span_place.result c.args.span ∙ c.self.invariant.0, c.self.invariant.1)

pub returns : goal.returns
returns c =
    let s = c.self.inside in let place = c.args.place in let span = c.args.span in
    let below = place-below s.words s.count place c.args.self.now c.self.view_is c.requires in
    let whole : SFits w64 span.spare = search rules in
    let words = c.put_span.ensures ∙ ap (λ i. with_span_words i span s.words) c.span_place.ensures in
    ap (λ w. nodes_of w s.count) words
    ∙ span-put s.words s.count place span c.self.invariant.0 below whole
    ∙ ap (with_span place span) c.self.view_is
