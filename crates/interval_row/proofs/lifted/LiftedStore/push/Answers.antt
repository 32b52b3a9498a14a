use Rattle.std.proofs.Common.{ap, rules, ◌∷◌, ◌++◌, [], ◌∙◌, FitsSigned, w64}
use Rattle.slot_core.specs.declared.jobs.Span.{Span}
use Rattle.node_chain.specs.Laps.{Laps}
use Rattle.interval_row.specs.Lifts.{lifted}
use Rattle.interval_row.specs.Stores.{StoreParts}
use Rattle.interval_row.proofs.LiftedSpans.{lifted-push, AreCovered-push}
use Rattle.interval_row.proofs.lifted.LiftedStore.push.Goals as goal

pub invariant_of-self : goal.invariant_of-self
invariant_of-self g c =
    let s = c.args.span in let was = c.cover-lift.result in
    let lifts = (g.S.Shelf.laps c.self.inside.shelf).lifts in let spans = g.S.Shelf.spans c.self.inside.shelf in
    let fits : FitsSigned w64 s.spare = search rules in
    let laps = ap (λ (l : Laps). l.lifts) (c.push.ensures.kept.numbers ∙ c.cover-lift.ensures.laps) in
    let now = c.push.ensures.spans ∙ ap (λ xs. xs ++ c.lowered_by.result ∷ []) c.cover-lift.ensures.kept.spans ∙ ap (λ (t : Span). spans ++ t ∷ []) c.lowered_by.ensures in
    rw (laps, now) (AreCovered-push lifts s was c.cover-lift.ensures.lift fits spans c.self.invariant)

pub returns-clause-spans : goal.returns-clause-spans
returns-clause-spans g c =
    let s = c.args.span in let was = c.cover-lift.result in
    let lifts = (g.S.Shelf.laps c.self.inside.shelf).lifts in let spans = g.S.Shelf.spans c.self.inside.shelf in
    let fits : FitsSigned w64 s.spare = search rules in
    let laps = ap (λ (l : Laps). l.lifts) (c.push.ensures.kept.numbers ∙ c.cover-lift.ensures.laps) in
    let now = c.push.ensures.spans ∙ ap (λ xs. xs ++ c.lowered_by.result ∷ []) c.cover-lift.ensures.kept.spans ∙ ap (λ (t : Span). spans ++ t ∷ []) c.lowered_by.ensures in
    (λ k. lifted (laps k) (now k)) ∙ lifted-push lifts s was c.cover-lift.ensures.lift fits spans ∙ ap (λ (v : StoreParts). v.spans ++ s ∷ []) c.self.view_is
