use Rattle.std.proofs.Common.{◌≡◌, List, ap, rules, set, sym, ◌∙◌, FitsSigned, w64}
use Rattle.slot_core.specs.declared.jobs.Span.{Span}
use Rattle.node_chain.specs.declared.marks.Lift.{Lift}
use Rattle.node_chain.specs.Laps.{Laps}
use Rattle.interval_row.specs.Lifts.{lifted, lowered_by}
use Rattle.interval_row.specs.Stores.{StoreParts}
use Rattle.interval_row.proofs.LiftedSpans.{lifted-set, lifted-set_there, AreCovered-first, AreCovered-put}
use Rattle.interval_row.proofs.lifted.LiftedStore.set.Given.{Over}
use Rattle.interval_row.proofs.lifted.LiftedStore.set.Goals as goal
use Rattle.interval_row.proofs.lifted.LiftedStore.set.Goals.{After-set, then-index-eq0, else-index-eq0}

module _ (g : Over) (c : After-set g) where
  abbrev lifts : List Lift
  lifts = (g.S.Shelf.laps c.self.inside.shelf).lifts

  abbrev spans : List Span
  spans = g.S.Shelf.spans c.self.inside.shelf

  fits : FitsSigned w64 c.args.span.spare
  fits = search rules

  -- the lifts of the shelf, where the laps before are these
  laps : (before : Laps) → g.S.Shelf.laps c.if-index-eq0.self-inside.shelf ≡ before → (g.S.Shelf.laps c.set.new.self).lifts ≡ before.lifts
  laps before are = ap (λ (l : Laps). l.lifts) (c.set.ensures.kept.numbers ∙ are)

  -- the spans of the shelf, where those before are these and the lift is this
  now : (before : List Span) → g.S.Shelf.spans c.if-index-eq0.self-inside.shelf ≡ before → (lift : Lift) → c.if-index-eq0.lift ≡ lift
      → g.S.Shelf.spans c.set.new.self ≡ set before c.args.index (lowered_by lift.add c.args.span)
  now before are lift is =
      c.set.ensures.spans ∙ (λ k. set (are k) c.args.index (c.lowered_by.ensures k))
      ∙ ap (λ (l : Lift). set before c.args.index (lowered_by l.add c.args.span)) is

pub invariant_of-self : goal.invariant_of-self
invariant_of-self g c = elim c.if-index-eq0.branch [
  | then-index-eq0 w ↦
      let i = c.args.index in let s = c.args.span in let was = w.lift-lift.result in
      let lifts_are = laps g c (g.S.Shelf.laps c.self.inside.shelf) (λ k. g.S.Shelf.laps (w.self-inside-is k).shelf) in
      let spans_are = now g c (spans g c) (λ k. g.S.Shelf.spans (w.self-inside-is k).shelf) was w.lift-is in
      rw (lifts_are, spans_are) (AreCovered-first (lifts g c) (spans g c) i (lowered_by was.add s) w.if-index-eq0.true c.self.invariant)
  | else-index-eq0 w ↦
      let i = c.args.index in let s = c.args.span in let was = w.cover-lift.result in
      let lifts_are = laps g c (g.S.Shelf.laps w.cover-lift.new.shelf) (λ k. g.S.Shelf.laps (w.self-inside-is k).shelf) ∙ ap (λ (l : Laps). l.lifts) w.cover-lift.ensures.laps in
      let spans_are = now g c (spans g c) ((λ k. g.S.Shelf.spans (w.self-inside-is k).shelf) ∙ w.cover-lift.ensures.kept.spans) was w.lift-is in
      rw (lifts_are, spans_are) (AreCovered-put (lifts g c) s was w.cover-lift.ensures.lift (fits g c) (spans g c) i w.if-index-eq0.false c.self.invariant)
]

pub returns-clause-spans : goal.returns-clause-spans
returns-clause-spans g c = elim c.if-index-eq0.branch [
  | then-index-eq0 w ↦
      let i = c.args.index in let s = c.args.span in let was = w.lift-lift.result in
      let lifts_are = laps g c (g.S.Shelf.laps c.self.inside.shelf) (λ k. g.S.Shelf.laps (w.self-inside-is k).shelf) in
      let spans_are = now g c (spans g c) (λ k. g.S.Shelf.spans (w.self-inside-is k).shelf) was w.lift-is in
      (λ k. lifted (lifts_are k) (spans_are k)) ∙ lifted-set_there (lifts g c) w.mark_index.result was w.lift-lift.ensures s (sym w.mark_index.ensures) (fits g c) (spans g c) i
      ∙ ap (λ (v : StoreParts). set v.spans i s) c.self.view_is
  | else-index-eq0 w ↦
      let i = c.args.index in let s = c.args.span in let was = w.cover-lift.result in
      let lifts_are = laps g c (g.S.Shelf.laps w.cover-lift.new.shelf) (λ k. g.S.Shelf.laps (w.self-inside-is k).shelf) ∙ ap (λ (l : Laps). l.lifts) w.cover-lift.ensures.laps in
      let spans_are = now g c (spans g c) ((λ k. g.S.Shelf.spans (w.self-inside-is k).shelf) ∙ w.cover-lift.ensures.kept.spans) was w.lift-is in
      (λ k. lifted (lifts_are k) (spans_are k)) ∙ lifted-set (lifts g c) s was w.cover-lift.ensures.lift (fits g c) (spans g c) i
      ∙ ap (λ (v : StoreParts). set v.spans i s) c.self.view_is
]
