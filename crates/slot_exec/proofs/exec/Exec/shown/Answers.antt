use Rattle.std.proofs.Common.{subst}
use Rattle.slot_core.specs.Keeping.Executives.{Executive, Shows}
use Rattle.slot_exec.proofs.ShownExecutives.{Shows-parts}
use Rattle.slot_exec.proofs.exec.Exec.shown.Goals as goal

pub returns-clause-shows : goal.returns-clause-shows
returns-clause-shows g c =
    let shows = Shows-parts _ (g.T.SpareTable.spans c.self.inside.table) _ _ _ _ c.first_spans.result c.self.invariant c.first_spans.ensures.shown in
    subst (λ (exec : Executive). Shows exec c.first_spans.result) c.self.view_is shows
