use Rattle.std.proofs.Common.{◌<◌, ◌^◌, ap, arith, length, rules, slice_set, w64, SFits, ◌∙◌}
use Rattle.std.proofs.lemmas.List.{length-set}
use Rattle.node_chain.specs.Words.{with_span_words, nodes_of}
use Rattle.node_chain.proofs.NodeWords.{place-below, length-span_words, node-put}
use Rattle.node_chain.proofs.block.Block.set.Goals as goal

pub put_span-requires-clause-words : goal.put_span-requires-clause-words
put_span-requires-clause-words c =
    let s = c.self.inside in
    let below = place-below s.words s.count c.args.place c.args.self.now c.self.view_is c.requires in
    omega (arith, below, c.self.invariant.0, c.span_place.ensures)

pub put_span-requires-clause-small : goal.put_span-requires-clause-small
put_span-requires-clause-small c =
    let s = c.self.inside in
    let below = place-below s.words s.count c.args.place c.args.self.now c.self.view_is c.requires in
    omega (arith, below, c.self.invariant.1, c.span_place.ensures)

pub put-requires : goal.put-requires
put-requires c =
    let s = c.self.inside in
    let below = place-below s.words s.count c.args.place c.args.self.now c.self.view_is c.requires in
    let long = ap length c.put_span.ensures ∙ length-span_words s.words c.span_place.result c.args.node.span in
    omega (arith, below, c.self.invariant.0, long)

pub invariant_of-self : goal.invariant_of-self
invariant_of-self c =
    let s = c.self.inside in let words = c.put_span.new.words in
    let long = ap length c.put_span.ensures ∙ length-span_words s.words c.span_place.result c.args.node.span in
    (ap length c.put.ensures ∙ length-set words c.args.place c.links_word-links.result ∙ long ∙ c.self.invariant.0, c.self.invariant.1)

pub returns : goal.returns
returns c =
    let s = c.self.inside in let place = c.args.place in let node = c.args.node in
    let below = place-below s.words s.count place c.args.self.now c.self.view_is c.requires in
    let small : node.next < 2 ^ 32 = search rules in
    let whole : SFits w64 node.span.spare = search rules in
    let spanned = c.put_span.ensures ∙ ap (λ i. with_span_words i node.span s.words) c.span_place.ensures in
    let words = c.put.ensures ∙ (λ k. slice_set (spanned k) place (c.links_word-links.ensures k)) in
    ap (λ w. nodes_of w s.count) words
    ∙ node-put s.words s.count place node c.self.invariant.0 below small whole
    ∙ ap (λ l. slice_set l place node) c.self.view_is
