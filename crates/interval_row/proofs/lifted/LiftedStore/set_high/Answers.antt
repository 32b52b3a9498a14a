use Rattle.std.proofs.Common.{◌≡◌, ap, drop, refl, rules, set, subst, sym, ◌∙◌, FitsSigned, w64, to_z, of_z}
use Rattle.std.proofs.lemmas.Int.{to_z-of_z}
use Rattle.std.proofs.lemmas.List.{drop-map}
use Rattle.node_chain.specs.declared.marks.Lift.{Lift}
use Rattle.node_chain.specs.Laps.{Laps}
use Rattle.interval_row.specs.Lifts.{lifted, lifted_in, AreAtMost}
use Rattle.interval_row.specs.Stores.{StoreParts}
use Rattle.interval_row.proofs.LiftedSpans.{lifted-same, AreCovered-set}
use Rattle.interval_row.proofs.lifted.LiftedStore.set_high.Goals as goal

pub invariant_of-self : goal.invariant_of-self
invariant_of-self g c =
    let j = c.args.index in let was = c.lift-lift.result in
    let lift : Lift = record was { high = c.args.high } in
    let lifts = (g.S.Shelf.laps c.self.inside.shelf).lifts in let spans = g.S.Shelf.spans c.self.inside.shelf in
    let fits : FitsSigned w64 was.add = search rules in
    let both : ◌≡◌ {A = Lift} (record { high = to_z w64 (of_z w64 c.args.high); add = to_z w64 (of_z w64 was.add) }) lift =
    λ k. record { high = to_z-of_z w64 c.args.high c.ranges.high k; add = to_z-of_z w64 was.add fits k } in
    let laps = ap (λ (l : Laps). l.lifts) c.set_lift.ensures.laps ∙ ap (set lifts j) both in
    let rest = ap (λ (v : StoreParts). drop 1 v.spans) (sym c.self.view_is) ∙ drop-map (lifted_in lifts) 1 spans in
    let below = subst (AreAtMost j c.args.high) rest c.requires.below in
    rw (laps, c.set_lift.ensures.kept.spans) (AreCovered-set lifts j was c.lift-lift.ensures lift refl (drop 1 spans) below c.self.invariant)

pub returns-clause-spans : goal.returns-clause-spans
returns-clause-spans g c =
    let j = c.args.index in let was = c.lift-lift.result in
    let lift : Lift = record was { high = c.args.high } in
    let lifts = (g.S.Shelf.laps c.self.inside.shelf).lifts in let spans = g.S.Shelf.spans c.self.inside.shelf in
    let fits : FitsSigned w64 was.add = search rules in
    let both : ◌≡◌ {A = Lift} (record { high = to_z w64 (of_z w64 c.args.high); add = to_z w64 (of_z w64 was.add) }) lift =
    λ k. record { high = to_z-of_z w64 c.args.high c.ranges.high k; add = to_z-of_z w64 was.add fits k } in
    let laps = ap (λ (l : Laps). l.lifts) c.set_lift.ensures.laps ∙ ap (set lifts j) both in
    (λ k. lifted (laps k) (c.set_lift.ensures.kept.spans k)) ∙ lifted-same lifts j was c.lift-lift.ensures lift refl spans
    ∙ ap (λ (v : StoreParts). v.spans) c.self.view_is
