use Rattle.std.proofs.Common.{◌<◌, ◌^◌, ap, arith, length, rules, slice_set, List, ◌∙◌}
use Rattle.std.proofs.lemmas.List.{length-set}
use Rattle.node_chain.specs.Nodes.{node_at}
use Rattle.node_chain.specs.Words.{nodes_of}
use Rattle.node_chain.specs.declared.block.Node.{Node}
use Rattle.node_chain.proofs.NodeWords.{place-below, links-put}
use Rattle.node_chain.proofs.block.Block.set_links.Goals as goal

pub put-requires : goal.put-requires
put-requires c =
    let s = c.self.inside in
    let below = place-below s.words s.count c.args.place c.args.self.now c.self.view_is c.requires in
    omega (arith, below, c.self.invariant.0)

pub invariant_of-self : goal.invariant_of-self
invariant_of-self c =
    let s = c.self.inside in
    (ap length c.put.ensures ∙ length-set s.words c.args.place c.links_word.result ∙ c.self.invariant.0, c.self.invariant.1)

pub returns : goal.returns
returns c =
    let s = c.self.inside in
    let below = place-below s.words s.count c.args.place c.args.self.now c.self.view_is c.requires in
    let small : c.args.next < 2 ^ 32 = search rules in
    let words = c.put.ensures ∙ ap (slice_set s.words c.args.place) c.links_word.ensures in
    ap (λ w. nodes_of w s.count) words
    ∙ links-put s.words s.count c.args.place c.args.next c.args.prev c.self.invariant.0 below small
    ∙ ap (λ (l : List Node). slice_set l c.args.place (record (node_at l c.args.place) { next = c.args.next; prev = c.args.prev })) c.self.view_is
