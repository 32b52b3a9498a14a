use Rattle.std.proofs.Common.{ap, length, subst, sym, slice_index_or, ◌∙◌, ◌<◌}
use Rattle.node_chain.specs.Raw.{values}
use Rattle.node_chain.specs.Words.{word_at}
use Rattle.node_chain.proofs.Counts.{some-same}
use Rattle.node_chain.proofs.Full.{IsFull-value}
use Rattle.node_chain.proofs.words.WordRow.word.Goals as goal

pub value-requires-clause-held : goal.value-requires-clause-held
value-requires-clause-held c =
    let held = c.self.inside.places.held in let place = c.args.place in
    let within : place < length (values held) = subst (λ l. place < length l) (sym c.self.view_is) c.requires in (
      slice_index_or (values held) place 0,
      IsFull-value held c.self.inside.count place 0 c.self.invariant.4 within,
    )

pub returns : goal.returns
returns c =
    let held = c.self.inside.places.held in let place = c.args.place in
    let within : place < length (values held) = subst (λ l. place < length l) (sym c.self.view_is) c.requires in
    let there = IsFull-value held c.self.inside.count place 0 c.self.invariant.4 within in
    some-same _ _ (sym c.value.ensures ∙ there) ∙ ap (λ l. word_at l place) c.self.view_is
