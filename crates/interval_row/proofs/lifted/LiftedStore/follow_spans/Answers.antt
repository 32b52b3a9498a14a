use Rattle.std.proofs.Common.{◌≡◌, ℕ, ◌+◌, ◌-◌, ◌*◌, ◌≤◌, ◌∙◌, ◌≤ℤ◌, drop, take, set, IfSome, FitsSigned, slice_get, ap, refl, sym, subst, arith, rules, w64, to_z, of_z}
use Rattle.std.specs.List.{AllByRecursion}
use Rattle.std.proofs.lemmas.Int.{ints, clamps, to_z-of_z}
use Rattle.slot_core.specs.declared.jobs.Span.{Span}
use Rattle.node_chain.specs.declared.marks.Lift.{Lift}
use Rattle.node_chain.specs.Laps.{Laps}
use Rattle.interval_row.specs.Changes.{ends_before}
use Rattle.interval_row.specs.Lifts.{lifted}
use Rattle.interval_row.specs.Marks.{mark_index}
use Rattle.interval_row.specs.Spans.{AreFilled}
use Rattle.interval_row.specs.Stores.{StoreParts}
use Rattle.interval_row.specs.Walks.{after_walk, others_between, HaveAtMost}
use Rattle.interval_row.proofs.LiftedSpans.{lifted-same}
use Rattle.interval_row.proofs.RunWalks.{ends_before-lifted, ends_before-runs, in-walk, start-lifted, take-lifted, AreCovered-others}
use Rattle.interval_row.proofs.lifted.LiftedStore.follow_spans.Given.{Over}
use Rattle.interval_row.proofs.lifted.LiftedStore.follow_spans.Goals as goal
use Rattle.interval_row.proofs.lifted.LiftedStore.follow_spans.Goals.{After-set_lift}

-- the lift that is put
abbrev lift : (g : Over) (c : After-set_lift g) → Lift
lift g c = record { high = c.max-high.result; add = c.lift-lift.result.add }

laps : (g : Over) (c : After-set_lift g) → (g.S.Shelf.laps c.set_lift.new.self).lifts ≡ set (g.S.Shelf.laps c.self.inside.shelf).lifts c.index_of_page-index.result (lift g c)
laps g c =
    let j = c.index_of_page-index.result in let was = c.lift-lift.result in
    let high : FitsSigned w64 c.max-high.result = search rules in
    let add : FitsSigned w64 was.add = search rules in
    let both : ◌≡◌ {A = Lift} (record { high = to_z w64 (of_z w64 c.max-high.result); add = to_z w64 (of_z w64 was.add) }) (lift g c) =
    λ k. record { high = to_z-of_z w64 c.max-high.result high k; add = to_z-of_z w64 was.add add k } in
    ap (λ (l : Laps). l.lifts) c.set_lift.ensures.laps ∙ ap (λ (l : Laps). set l.lifts j (record { high = to_z w64 (of_z w64 c.max-high.result); add = to_z w64 (of_z w64 was.add) })) c.follow_back-followed.ensures.kept.numbers
    ∙ ap (set (g.S.Shelf.laps c.self.inside.shelf).lifts j) both

-- the spans are those that were followed
now : (g : Over) (c : After-set_lift g) → lifted (g.S.Shelf.laps c.set_lift.new.self).lifts (g.S.Shelf.spans c.set_lift.new.self) ≡ lifted (g.S.Shelf.laps c.self.inside.shelf).lifts (g.S.Shelf.spans c.follow_back-followed.new.shelf)
now g c =
    let lifts = (g.S.Shelf.laps c.self.inside.shelf).lifts in
    (λ k. lifted (laps g c k) (c.set_lift.ensures.kept.spans k))
    ∙ lifted-same lifts c.index_of_page-index.result c.lift-lift.result c.lift-lift.ensures (lift g c) refl (g.S.Shelf.spans c.follow_back-followed.new.shelf)

pub invariant_of-self : goal.invariant_of-self
invariant_of-self g c =
    let w = (goal.at.invariant_of-self g c).After-set_lift in
    let j = c.index_of_page-index.result in let was = c.lift-lift.result in
    let lifts = (g.S.Shelf.laps c.self.inside.shelf).lifts in
    let rows = g.S.Shelf.spans c.self.inside.shelf in
    let new = g.S.Shelf.spans c.follow_back-followed.new.shelf in
    let followed = c.follow_back-followed.result in
    let k = followed.walk.index in
    let n = c.args.from.index in
    let was_high : FitsSigned w64 was.high = search rules in
    let last_high : FitsSigned w64 followed.high = search rules in
    let more : was.high ≤ℤ c.max-high.result = omega (arith, ints, clamps, c.max-high.ensures.value, to_z-of_z w64 was.high was_high) in
    let over : followed.high ≤ℤ c.max-high.result = omega (arith, ints, clamps, c.max-high.ensures.value, to_z-of_z w64 followed.high last_high) in
    let low : k ≤ n = omega (arith, c.follow_back-followed.ensures.before) in
    let view = ap (λ (v : StoreParts). v.spans) c.self.view_is in
    let are : AreFilled (after_walk c.args.from (lifted lifts rows)) = subst (λ xs. AreFilled (after_walk c.args.from xs)) (sym view) c.requires.filled in
    let count : (y : ℕ) → ends_before y c.args.self.now.spans ≡ ends_before y rows = λ y. ap (ends_before y) (sym view) ∙ ends_before-lifted lifts y rows in
    let high : n ≤ ends_before ((c.args.page + 1) * 64) rows = omega (arith, c.requires.place, count ((c.args.page + 1) * 64)) in
    let own = in-walk lifts followed.walk c.args.from c.args.page new rows are c.follow_back-followed.ensures.spans low c.follow_back-followed.ensures.reached high in
    let mark : AllByRecursion (λ (s : Span). mark_index s.end ≡ j) (take (n - k) (drop k new)) = rw c.index_of_page-index.ensures own in
    rw (laps g w, c.set_lift.ensures.kept.spans) (AreCovered-others lifts j was c.lift-lift.ensures (lift g w) refl followed.high k n new rows more over c.follow_back-followed.ensures.before c.self.invariant mark c.follow_back-followed.ensures.high c.follow_back-followed.ensures.front c.follow_back-followed.ensures.rest)

pub returns-clause-spans : goal.returns-clause-spans
returns-clause-spans g c =
    let w = (goal.at.returns-clause-spans g c).After-set_lift in
    ap (after_walk c.follow_back-followed.result.walk) (now g w) ∙ c.follow_back-followed.ensures.spans
    ∙ ap (λ (v : StoreParts). after_walk c.args.from v.spans) c.self.view_is

pub returns-clause-place : goal.returns-clause-place
returns-clause-place g c =
    let w = (goal.at.returns-clause-place g c).After-set_lift in
    let y = c.args.page * 64 in
    let lifts = (g.S.Shelf.laps c.self.inside.shelf).lifts in
    let rows = g.S.Shelf.spans c.self.inside.shelf in
    let new = g.S.Shelf.spans c.follow_back-followed.new.shelf in
    let same = ends_before-runs y lifts c.follow_back-followed.result.walk c.args.from new rows c.follow_back-followed.ensures.spans in
    (λ other. c.follow_back-followed.ensures.place other ∙ sym same ∙ sym (ends_before-lifted lifts y new) ∙ ap (ends_before y) (sym (now g w)))

pub returns-clause-start : goal.returns-clause-start
returns-clause-start g c =
    let w = (goal.at.returns-clause-start g c).After-set_lift in
    let lifts = (g.S.Shelf.laps c.self.inside.shelf).lifts in
    let new = g.S.Shelf.spans c.follow_back-followed.new.shelf in
    let followed = c.follow_back-followed.result in
    subst (λ xs. IfSome (slice_get xs followed.walk.index) (λ (s : Span). s.start ≡ followed.start)) (sym (now g w)) (start-lifted lifts followed.start followed.walk.index new c.follow_back-followed.ensures.start)

pub returns-clause-high : goal.returns-clause-high
returns-clause-high g c =
    let w = (goal.at.returns-clause-high g c).After-set_lift in
    let followed = c.follow_back-followed.result in
    subst (λ xs. HaveAtMost followed.high (others_between followed.walk.index c.args.from.index xs)) (sym (now g w)) c.follow_back-followed.ensures.high

pub returns-clause-front : goal.returns-clause-front
returns-clause-front g c =
    let w = (goal.at.returns-clause-front g c).After-set_lift in
    let lifts = (g.S.Shelf.laps c.self.inside.shelf).lifts in
    let k = c.follow_back-followed.result.walk.index in
    let rows = g.S.Shelf.spans c.self.inside.shelf in
    let new = g.S.Shelf.spans c.follow_back-followed.new.shelf in
    ap (take k) (now g w) ∙ take-lifted lifts k new rows c.follow_back-followed.ensures.front ∙ ap (λ (v : StoreParts). take k v.spans) c.self.view_is

pub returns-clause-before : goal.returns-clause-before
returns-clause-before g c = c.follow_back-followed.ensures.before

pub returns-clause-two_steps : goal.returns-clause-two_steps
returns-clause-two_steps g c = c.follow_back-followed.ensures.two_steps

pub returns-clause-reached : goal.returns-clause-reached
returns-clause-reached g c =
    let shelf = c.self.inside.shelf in
    let same = ends_before-lifted (g.S.Shelf.laps shelf).lifts (c.args.page * 64) (g.S.Shelf.spans shelf) in
    let seen = ap (λ (v : StoreParts). ends_before (c.args.page * 64) v.spans) c.self.view_is in
    omega (arith, c.follow_back-followed.ensures.reached, same, seen)

pub follow_back-followed-requires-clause-lift : goal.follow_back-followed-requires-clause-lift
follow_back-followed-requires-clause-lift g c =
    ap (slice_get (g.S.Shelf.laps c.self.inside.shelf).lifts) (sym c.index_of_page-index.ensures) ∙ c.lift-lift.ensures

pub follow_back-followed-requires-clause-some : goal.follow_back-followed-requires-clause-some
follow_back-followed-requires-clause-some g c =
    let shelf = c.self.inside.shelf in
    let same = ends_before-lifted (g.S.Shelf.laps shelf).lifts (c.args.page * 64) (g.S.Shelf.spans shelf) in
    let seen = ap (λ (v : StoreParts). ends_before (c.args.page * 64) v.spans) c.self.view_is in
    omega (arith, c.requires.some, same, seen)

pub follow_back-followed-requires-clause-place : goal.follow_back-followed-requires-clause-place
follow_back-followed-requires-clause-place g c =
    let shelf = c.self.inside.shelf in
    let same = ends_before-lifted (g.S.Shelf.laps shelf).lifts ((c.args.page + 1) * 64) (g.S.Shelf.spans shelf) in
    let seen = ap (λ (v : StoreParts). ends_before ((c.args.page + 1) * 64) v.spans) c.self.view_is in
    omega (arith, c.requires.place, same, seen)

pub follow_back-followed-requires-clause-filled : goal.follow_back-followed-requires-clause-filled
follow_back-followed-requires-clause-filled g c =
    subst (λ (v : StoreParts). AreFilled (after_walk c.args.from v.spans)) (sym c.self.view_is) c.requires.filled

pub returns-clause-kept : goal.returns-clause-kept
returns-clause-kept g c = record {
  room = c.set_lift.ensures.kept.room ∙ c.follow_back-followed.ensures.kept.room ∙ ap (λ (v : StoreParts). v.room) c.self.view_is;
  numbers = ap (λ (l : Laps). l.marks) c.set_lift.ensures.laps ∙ ap (λ (l : Laps). l.marks) c.follow_back-followed.ensures.kept.numbers ∙ ap (λ (v : StoreParts). v.marks) c.self.view_is;
}
