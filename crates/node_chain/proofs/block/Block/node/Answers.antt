use Rattle.std.proofs.Common.{◌/◌, ◌%◌, ◌^◌, ap, arith, sym, ◌∙◌}
use Rattle.node_chain.specs.Nodes.{node_at}
use Rattle.node_chain.specs.Words.{span_in}
use Rattle.node_chain.proofs.NodeWords.{node-at, place-below}
use Rattle.node_chain.proofs.block.Block.node.Goals as goal

pub word-links-requires : goal.word-links-requires
word-links-requires c =
    let s = c.self.inside in
    let below = place-below s.words s.count c.args.place c.args.self.now c.self.view_is c.requires in
    omega (arith, below, c.self.invariant.0)

pub span_in-requires-clause-words : goal.span_in-requires-clause-words
span_in-requires-clause-words c =
    let s = c.self.inside in
    let below = place-below s.words s.count c.args.place c.args.self.now c.self.view_is c.requires in
    omega (arith, below, c.self.invariant.0, c.span_place.ensures)

pub span_in-requires-clause-small : goal.span_in-requires-clause-small
span_in-requires-clause-small c =
    let s = c.self.inside in
    let below = place-below s.words s.count c.args.place c.args.self.now c.self.view_is c.requires in
    omega (arith, below, c.self.invariant.1, c.span_place.ensures)

pub returns : goal.returns
returns c =
    let s = c.self.inside in let place = c.args.place in
    let below = place-below s.words s.count place c.args.self.now c.self.view_is c.requires in
    let links = c.word-links.ensures in
    let span = c.span_in.ensures ∙ ap (span_in s.words) c.span_place.ensures in
    (λ k. record { next = links k % 2 ^ 32; prev = links k / 2 ^ 32; span = span k })
    ∙ sym (node-at s.words s.count place below) ∙ ap (λ l. node_at l place) c.self.view_is
