use Rattle.std.proofs.Common.{ap, slice_get, Some, sym, ◌∙◌}
use Rattle.interval_row.specs.Stores.{StoreParts}
use Rattle.interval_row.proofs.LiftedSpans.{slice_get-lifted}
use Rattle.interval_row.proofs.lifted.LiftedStore.at.Goals as goal

pub returns-clause-span : goal.returns-clause-span
returns-clause-span g c =
    let lifts = (g.S.Shelf.laps c.self.inside.shelf).lifts in let spans = g.S.Shelf.spans c.self.inside.shelf in
    ap (λ (v : StoreParts). slice_get v.spans c.args.index) (sym c.self.view_is)
    ∙ slice_get-lifted lifts spans c.args.index c.mark_index.result c.at-span.result c.lift.result c.at-span.ensures.span c.mark_index.ensures c.lift.ensures
    ∙ ap Some (sym c.lifted_by.ensures)
