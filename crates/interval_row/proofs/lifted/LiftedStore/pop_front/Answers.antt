use Rattle.std.proofs.Common.{◌≡◌, ap, slice_get, Some, subst, sym, ◌∙◌}
use Rattle.node_chain.specs.Laps.{Laps}
use Rattle.interval_row.specs.Stores.{StoreParts}
use Rattle.interval_row.proofs.LiftedSpans.{slice_get-lifted}
use Rattle.interval_row.proofs.lifted.LiftedStore.pop_front.Goals as goal

pub returns-clause-first : goal.returns-clause-first
returns-clause-first g c =
    let lifts = (g.S.Shelf.laps c.self.inside.shelf).lifts in let spans = g.S.Shelf.spans c.self.inside.shelf in
    let there = subst (λ (l : Laps). slice_get l.lifts c.mark_index.result ≡ Some c.lift.result) c.pop_front-span.ensures.kept.numbers c.lift.ensures in
    ap (λ (v : StoreParts). slice_get v.spans 0) (sym c.self.view_is)
    ∙ slice_get-lifted lifts spans 0 c.mark_index.result c.pop_front-span.result c.lift.result c.pop_front-span.ensures.first c.mark_index.ensures there
    ∙ ap Some (sym c.lifted_by.ensures)
