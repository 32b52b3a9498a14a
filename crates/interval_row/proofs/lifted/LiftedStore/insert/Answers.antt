use Rattle.std.proofs.Common.{◌≡◌, ℕ, List, ap, rules, insert, slice_get, subst, sym, ◌<◌, length, Some, ◌∙◌, arith, FitsSigned, w64}
use Rattle.std.proofs.lemmas.List.{length-map}
use Rattle.std.proofs.lemmas.Option.{slice_get_within}
use Rattle.slot_core.specs.declared.jobs.Span.{Span}
use Rattle.node_chain.specs.declared.marks.Lift.{Lift}
use Rattle.node_chain.specs.Laps.{Laps}
use Rattle.interval_row.specs.Lifts.{lifted, lifted_in, lowered_by, AreCovered}
use Rattle.interval_row.specs.Stores.{StoreParts}
use Rattle.interval_row.proofs.LiftedSpans.{lifted-insert, lifted-over, others_at, over, AreCovered-insert, AreCovered-there}
use Rattle.interval_row.proofs.lifted.LiftedStore.insert.Given.{Over}
use Rattle.interval_row.proofs.lifted.LiftedStore.insert.Goals as goal
use Rattle.interval_row.proofs.lifted.LiftedStore.insert.Goals.{After-insert}

module _ (g : Over) (c : After-insert g) where
  abbrev i : ℕ
  i = c.args.index

  abbrev lifts : List Lift
  lifts = (g.S.Shelf.laps c.self.inside.shelf).lifts

  abbrev spans : List Span
  spans = g.S.Shelf.spans c.self.inside.shelf

  -- the lifts once the span that stands there is covered
  abbrev covered : List Lift
  covered = (g.S.Shelf.laps c.cover.new.shelf).lifts

  covered_is : covered ≡ over lifts c.args.there c.cover.result c.cover.ensures.lift
  covered_is = ap (λ (l : Laps). l.lifts) c.cover.ensures.laps

  fits : FitsSigned w64 c.args.span.spare
  fits = search rules

  there : slice_get (lifted lifts spans) i ≡ Some c.args.there
  there = ap (λ (v : StoreParts). slice_get v.spans i) c.self.view_is ∙ c.requires.there

  within : i < length spans
  within = omega (arith, slice_get_within (lifted lifts spans) i c.args.there there, length-map spans (lifted_in lifts))

  laps : (g.S.Shelf.laps c.insert.new.self).lifts ≡ over covered c.args.span c.cover-lift.result c.cover-lift.ensures.lift
  laps = ap (λ (l : Laps). l.lifts) (c.insert.ensures.kept.numbers ∙ c.cover-lift.ensures.laps)

  now : g.S.Shelf.spans c.insert.new.self ≡ insert spans i (lowered_by c.cover-lift.result.add c.args.span)
  now =
      c.insert.ensures.spans ∙ ap (λ xs. insert xs i c.lowered_by.result) (c.cover-lift.ensures.kept.spans ∙ c.cover.ensures.kept.spans)
      ∙ ap (insert spans i) c.lowered_by.ensures

pub invariant_of-self : goal.invariant_of-self
invariant_of-self g c =
    let before = AreCovered-there (lifts g c) c.args.there c.cover.result c.cover.ensures.lift (spans g c) (i g c) (there g c) c.self.invariant in
    let others = subst (λ ls. AreCovered ls (others_at (i g c) (spans g c))) (sym (covered_is g c)) before in
    rw (laps g c, now g c) (AreCovered-insert (covered g c) c.args.span c.cover-lift.result c.cover-lift.ensures.lift (fits g c) (spans g c) (i g c) (within g c) others)

pub returns-clause-spans : goal.returns-clause-spans
returns-clause-spans g c =
    let s = c.args.span in
    (λ k. lifted (laps g c k) (now g c k)) ∙ lifted-insert (covered g c) s c.cover-lift.result c.cover-lift.ensures.lift (fits g c) (spans g c) (i g c)
    ∙ ap (λ ls. insert (lifted ls (spans g c)) (i g c) s) (covered_is g c)
    ∙ ap (λ xs. insert xs (i g c) s) (lifted-over (lifts g c) c.args.there c.cover.result c.cover.ensures.lift (spans g c))
    ∙ ap (λ (v : StoreParts). insert v.spans (i g c) s) c.self.view_is
