use Rattle.std.proofs.Common.{◌≡◌, ℕ, zero, suc, List, [], ◌∷◌, take, ◌<◌, ◌∙◌, FitsSigned, Some, get_or, length, set, refl, ap, sym, arith, rules, w64, to_z, of_z}
use Rattle.std.proofs.lemmas.Grind.{get_or-set_at}
use Rattle.std.proofs.lemmas.Int.{ints, clamps}
use Rattle.std.proofs.lemmas.List.{length-set}
use Rattle.std.proofs.lemmas.Option.{slice_get_within, slice_get-get_or, get_or_from_slice_get}
use Rattle.slot_core.specs.declared.jobs.Span.{Span}
use Rattle.spare_capacity.specs.Lending.{repaid}
use Rattle.spare_capacity.specs.Recurrence.{first_start}
use Rattle.spare_capacity.proofs.Steps.{no_row}
use Rattle.interval_row.proofs.WalkBack.{walked-put, IsWithin-spare}
use Rattle.interval_row.proofs.walk.set_span.Goals as goal

pub repaid-more-requires : goal.repaid-more-requires
repaid-more-requires g c =
    let rows = g.S.Store.spans c.args.store.now in
    let k = c.args.place.index in
    let was = c.args.place.span in
    let h = c.requires.filled in
    let near = IsWithin-spare (first_start rows) rows k h.consecutive h.filled h.few (slice_get_within rows k was c.requires.span) in
    let is : was ≡ get_or rows k no_row = sym (get_or_from_slice_get rows k was no_row c.requires.span) in
    let old : FitsSigned w64 was.spare = search rules in
    let new : FitsSigned w64 c.args.span.spare = search rules in
    omega (arith, ints, clamps, near.low, near.high, ap (λ (s : Span). s.spare) is)

pub returns-clause-spans : goal.returns-clause-spans
returns-clause-spans g c =
    let rows = g.S.Store.spans c.args.store.now in
    let k = c.args.place.index in
    let was = c.args.place.span in
    let is : was ≡ get_or rows k no_row = sym (get_or_from_slice_get rows k was no_row c.requires.span) in
    let old : FitsSigned w64 was.spare = search rules in
    let new : FitsSigned w64 c.args.span.spare = search rules in
    let fits : FitsSigned w64 c.repaid-more.result = search rules in
    let more : to_z w64 (of_z w64 c.repaid-more.result) ≡ repaid was.spare c.args.span.spare = omega (arith, ints, clamps, c.repaid-more.ensures) in
    rw (more, c.set.ensures.spans) (walked-put rows k was c.args.span c.requires.filled (slice_get_within rows k was c.requires.span) is c.requires.spare)

pub returns-clause-placed : goal.returns-clause-placed
returns-clause-placed g c =
    let rows = g.S.Store.spans c.args.store.now in
    let k = c.args.place.index in
    let low : k < length rows = slice_get_within rows k c.args.place.span c.requires.span in
    let new = set rows k c.args.span in
    rw c.set.ensures.spans (slice_get-get_or new k no_row (omega (arith, low, length-set rows k c.args.span)) ∙ ap Some (get_or-set_at rows k k c.args.span no_row refl low))

-- the spans before the one that is set stay
front-kept : {X : Type 0} (k : ℕ) (x : X) (xs : List X) → take k (set xs k x) ≡ take k xs
front-kept k x [] = refl
front-kept zero x (y ∷ ys) = refl
front-kept (suc k) x (y ∷ ys) = ap (λ zs. y ∷ zs) (front-kept k x ys)

pub returns-clause-front : goal.returns-clause-front
returns-clause-front g c =
    ap (take c.args.place.index) c.set.ensures.spans ∙ front-kept c.args.place.index c.args.span (g.S.Store.spans c.args.store.now)

pub returns-clause-index : goal.returns-clause-index
returns-clause-index g c = refl

pub returns-clause-one_step : goal.returns-clause-one_step
returns-clause-one_step g c = c.set.ensures.one_step

pub set-requires : goal.set-requires
set-requires g c =
    slice_get_within (g.S.Store.spans c.args.store.now) c.args.place.index c.args.place.span c.requires.span

pub returns-clause-kept : goal.returns-clause-kept
returns-clause-kept g c = c.set.ensures.kept
