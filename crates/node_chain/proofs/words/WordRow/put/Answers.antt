use Rattle.std.proofs.Common.{ap, subst, sym, ◌∙◌, slice_set}
use Rattle.node_chain.specs.Raw.{values, IsFull}
use Rattle.node_chain.proofs.Full.{values-set, IsFull-set}
use Rattle.node_chain.proofs.words.WordRow.put.Goals as goal

pub invariant_of-self : goal.invariant_of-self
invariant_of-self c =
    let i = c.self.invariant in
    let full = IsFull-set c.self.inside.places.held c.self.inside.count c.args.place c.args.word i.4 in (
      c.put.ensures.block ∙ i.0,
      i.1,
      i.2,
      i.3,
      subst (λ l. IsFull l c.self.inside.count) (sym c.put.ensures.held) full,
    )

pub returns : goal.returns
returns c =
    ap values c.put.ensures.held
    ∙ values-set c.self.inside.places.held c.self.inside.count c.args.place c.args.word c.self.invariant.4
    ∙ ap (λ l. slice_set l c.args.place c.args.word) c.self.view_is
