-- What a store over a shelf has, after a change of the shelf's spans or lifts.
use Rattle.std.proofs.Common.{◌≡◌, ℕ, zero, suc, ℤ, pos, All, ◌+ℤ◌, ◌-ℤ◌, ◌<◌, ◌≤ℤ◌, List, [], ◌∷◌, ◌++◌, cond, eqb, get_or, set, insert, length, take, drop, slice_get, Some, inl, inr, refl, sym, ap, subst, ◌∙◌, arith, FitsSigned, w64}
use Rattle.std.specs.Int.{int_max, int_wrap}
use Rattle.std.specs.Prelude.{option_map}
use Rattle.std.proofs.lemmas.Bool.{cases_eq, eq-eqb, ne_eqb}
use Rattle.std.proofs.lemmas.Int.{ints, clamps, int_wrap_fits, int_wrap-add_left, int_wrap-add_right}
use Rattle.std.proofs.lemmas.List.{get_or-set_same, get_or-set_other, drop-set-lt, map-set, map_push}
use Rattle.std.proofs.lemmas.List.Sums.{sum_by-cons}
use Rattle.std.proofs.lemmas.List.Elements.{All-append, All-cons, All-drop, All-from_recursion, All-nil, All-set, All-take, recursion_from_All}
use Rattle.std.proofs.lemmas.Option.{get_or_from_slice_get, same_Some, slice_get-map, slice_get_within}
use Rattle.slot_core.specs.declared.jobs.Span.{Span}
use Rattle.spare_capacity.specs.Lending.{raised}
use Rattle.node_chain.specs.declared.marks.Lift.{Lift}
use Rattle.node_chain.specs.Laps.{blank_lift}
use Rattle.node_chain.specs.Passes.{lift_raised}
use Rattle.interval_row.specs.Lifts.{lift_of, lifted, lifted_by, lifted_in, lowered_by, raised_at, raised_in, AreAtMost, AreCovered}
use Rattle.interval_row.specs.Marks.{count_at, mark_index}
use Rattle.interval_row.proofs.PageWalks.{MayRaise}
use Rattle.interval_row.proofs.Stores.{map-insert}

-- the capacity that is put is the one that is read
pub lifted-lowered : (add : ℤ) (s : Span) → FitsSigned w64 s.spare → lifted_by add (lowered_by add s) ≡ s
lifted-lowered add s fits =
    let back : s.spare -ℤ add +ℤ add ≡ s.spare = omega (arith, ints) in
    ap (λ (x : ℤ). record s { spare = x }) (int_wrap-add_left w64 (s.spare -ℤ add) add ∙ ap (int_wrap w64) back ∙ int_wrap_fits w64 s.spare fits)

-- lifts, where the one at an index was this and has become another
module _ (lifts : List Lift) (j : ℕ) (was : Lift) (at : slice_get lifts j ≡ Some was) where
  -- the lift of a span with that mark
  pub lift_of-there : (s : Span) → mark_index s.end ≡ j → lift_of lifts s ≡ was
  lift_of-there s e = ap (λ k. get_or lifts k blank_lift) e ∙ get_or_from_slice_get lifts j was blank_lift at

  -- what the shelf has of a span with that mark is the span
  lowered-there : (s : Span) → mark_index s.end ≡ j → FitsSigned w64 s.spare → lifted_in lifts (lowered_by was.add s) ≡ s
  lowered-there s e fits = ap (λ (l : Lift). lifted_by l.add (lowered_by was.add s)) (lift_of-there (lowered_by was.add s) e) ∙ lifted-lowered was.add s fits

  -- where it is set, and no lift changes
  pub lifted-set_there : (s : Span) → mark_index s.end ≡ j → FitsSigned w64 s.spare → (spans : List Span) (i : ℕ) → lifted lifts (set spans i (lowered_by was.add s)) ≡ set (lifted lifts spans) i s
  lifted-set_there s e fits spans i = map-set (lifted_in lifts) spans i (lowered_by was.add s) ∙ ap (set (lifted lifts spans) i) (lowered-there s e fits)

  pub lift_of-set : (lift : Lift) (s : Span) → mark_index s.end ≡ j → lift_of (set lifts j lift) s ≡ lift
  lift_of-set lift s e =
      ap (λ k. get_or (set lifts j lift) k blank_lift) e ∙ get_or-set_same lifts j lift blank_lift (slice_get_within lifts j was at)

  -- that of any other stays
  pub lift_of-other : (lift : Lift) (s : Span) → (mark_index s.end ≡ j → ⊥) → lift_of (set lifts j lift) s ≡ lift_of lifts s
  lift_of-other lift s e = get_or-set_other lifts j (mark_index s.end) lift blank_lift e

  -- where it adds the same, each span is the same
  pub lifted_in-same : (lift : Lift) (s : Span) → lift.add ≡ was.add → lifted_in (set lifts j lift) s ≡ lifted_in lifts s
  lifted_in-same lift s same =
      elim (cases_eq (mark_index s.end) j) [
        | inl e ↦
            ap (λ (l : Lift). lifted_by l.add s) (lift_of-set lift s e) ∙ ap (λ a. lifted_by a s) same
            ∙ ap (λ (l : Lift). lifted_by l.add s) (sym (lift_of-there s e))
        | inr e ↦ ap (λ (l : Lift). lifted_by l.add s) (lift_of-other lift s e)
      ]

  pub lifted-same : (lift : Lift) → lift.add ≡ was.add → (spans : List Span) → lifted (set lifts j lift) spans ≡ lifted lifts spans
  lifted-same lift same [] = refl
  lifted-same lift same (s ∷ ss) =
      ap (λ (t : Span). t ∷ lifted (set lifts j lift) ss) (lifted_in-same lift s same) ∙ ap (λ ts. lifted_in lifts s ∷ ts) (lifted-same lift same ss)

  -- the spans of a mark are below what its lift says
  pub AreAtMost-covered : (spans : List Span) → AreCovered lifts spans → AreAtMost j was.high (lifted lifts spans)
  AreAtMost-covered [] h = tt
  AreAtMost-covered (s ∷ ss) h =
      ((λ e. subst (λ (l : Lift). (lifted_in lifts s).spare ≤ℤ l.high) (lift_of-there s e) h.0), AreAtMost-covered ss h.1)

  -- another number that they are below
  pub AreCovered-set : (lift : Lift) → lift.add ≡ was.add → (spans : List Span) → AreAtMost j lift.high (lifted lifts spans) → AreCovered lifts spans → AreCovered (set lifts j lift) spans
  AreCovered-set lift same [] below h = tt
  AreCovered-set lift same (s ∷ ss) below h =
      let new = set lifts j lift in
      let here : (lifted_in new s).spare ≤ℤ (lift_of new s).high =
      elim (cases_eq (mark_index s.end) j) [
        | inl e ↦
            let there = below.0 e in
            let high = ap (λ (l : Lift). l.high) (lift_of-set lift s e) in
            let spare = ap (λ (t : Span). t.spare) (lifted_in-same lift s same) in
            omega (arith, ints, there, high, spare)
        | inr e ↦
            let there = h.0 in
            let high = ap (λ (l : Lift). l.high) (lift_of-other lift s e) in
            let spare = ap (λ (t : Span). t.spare) (lifted_in-same lift s same) in
            omega (arith, ints, there, high, spare)
      ] in
      (here, AreCovered-set lift same ss below.1 h.1)

-- spans below a number are below a greater one
pub AreAtMost-more : (j : ℕ) (low high : ℤ) → low ≤ℤ high → (spans : List Span) → AreAtMost j low spans → AreAtMost j high spans
AreAtMost-more j low high l [] h = tt
AreAtMost-more j low high l (s ∷ ss) h =
    ((λ e. let there = h.0 e in omega (arith, ints, there, l)), AreAtMost-more j low high l ss h.1)

-- all but the first of spans below a number are below it
pub AreAtMost-drop : (j : ℕ) (high : ℤ) (spans : List Span) → AreAtMost j high spans → AreAtMost j high (drop 1 spans)
AreAtMost-drop j high [] h = tt
AreAtMost-drop j high (s ∷ ss) h = h.1

-- where no span ends in the pages of a mark, all that do are below any number
pub AreAtMost-none : (j : ℕ) (high : ℤ) (spans : List Span) → count_at j spans ≡ 0 → AreAtMost j high spans
AreAtMost-none j high [] none = tt
AreAtMost-none j high (s ∷ ss) none =
    let sum = sum_by-cons (λ (t : Span). cond (eqb (mark_index t.end) j) 1 0) s ss in
    ((λ e. let one = ap {B = ℕ} (λ b. cond b 1 0) (eq-eqb (mark_index s.end) j e) in omega (arith, ints, none, sum, one)), AreAtMost-none j high ss (omega (arith, none, sum)))

-- where a lift adds so much more
module _ (lifts : List Lift) (j : ℕ) (was : Lift) (at : slice_get lifts j ≡ Some was) (more : ℤ) where
  abbrev lift : Lift
  lift = lift_raised more was

  abbrev new : List Lift
  new = set lifts j lift

  -- a span of the mark has so much more capacity
  raised-there : (s : Span) → mark_index s.end ≡ j → FitsSigned w64 ((lifted_in lifts s).spare +ℤ more) → lifted_in new s ≡ raised more (lifted_in lifts s)
  raised-there s e fits =
      let old = ap (λ (l : Lift). l.add) (lift_of-there lifts j was at s e) in
      let now = ap (λ (l : Lift). l.add) (lift_of-set lifts j was at lift s e) in
      let sum : s.spare +ℤ (was.add +ℤ more) ≡ s.spare +ℤ was.add +ℤ more = omega (arith, ints) in
      let wrapped : int_wrap w64 (s.spare +ℤ int_wrap w64 (was.add +ℤ more)) ≡ int_wrap w64 (int_wrap w64 (s.spare +ℤ was.add) +ℤ more) =
      int_wrap-add_right w64 s.spare (was.add +ℤ more) ∙ ap (int_wrap w64) sum ∙ sym (int_wrap-add_left w64 (s.spare +ℤ was.add) more) in
      ap (λ (a : ℤ). lifted_by a s) now ∙ ap (λ (x : ℤ). record s { spare = x }) wrapped
      ∙ ap (λ (a : ℤ). record s { spare = int_wrap w64 (int_wrap w64 (s.spare +ℤ a) +ℤ more) }) (sym old)
      ∙ ap (λ (x : ℤ). record s { spare = x }) (int_wrap_fits w64 ((lifted_in lifts s).spare +ℤ more) fits)

  raised-at : (s : Span) → (mark_index s.end ≡ j → FitsSigned w64 ((lifted_in lifts s).spare +ℤ more)) → lifted_in new s ≡ raised_in j more (lifted_in lifts s)
  raised-at s fits =
      elim (cases_eq (mark_index s.end) j) [
        | inl e ↦ raised-there s e (fits e) ∙ ap (λ b. cond b (raised more (lifted_in lifts s)) (lifted_in lifts s)) (sym (eq-eqb (mark_index s.end) j e))
        | inr e ↦
            ap (λ (l : Lift). lifted_by l.add s) (lift_of-other lifts j was at lift s e)
            ∙ ap (λ b. cond b (raised more (lifted_in lifts s)) (lifted_in lifts s)) (sym (ne_eqb (mark_index s.end) j e))
      ]

  -- so have all of them
  pub lifted-raised : (spans : List Span) → MayRaise j more (lifted lifts spans) → lifted new spans ≡ raised_at j more (lifted lifts spans)
  lifted-raised [] h = refl
  lifted-raised (s ∷ ss) h =
      ap (λ (t : Span). t ∷ lifted new ss) (raised-at s h.0) ∙ ap (λ ts. raised_in j more (lifted_in lifts s) ∷ ts) (lifted-raised ss h.1)

  -- and are below what the lift says, where that is at most 0 then
  pub AreCovered-raised : (was.high +ℤ more) ≤ℤ pos 0 → (spans : List Span) → MayRaise j more (lifted lifts spans) → AreCovered lifts spans → AreCovered new spans
  AreCovered-raised low [] may h = tt
  AreCovered-raised low (s ∷ ss) may h =
      let here : (lifted_in new s).spare ≤ℤ (lift_of new s).high =
      elim (cases_eq (mark_index s.end) j) [
        | inl e ↦
            let there = h.0 in
            let old = ap (λ (l : Lift). l.high) (lift_of-there lifts j was at s e) in
            let own = may.0 e in
            let fits : FitsSigned w64 (was.high +ℤ more) = omega (arith, ints, there, old, own, low) in
            let now = ap (λ (l : Lift). l.high) (lift_of-set lifts j was at lift s e) ∙ int_wrap_fits w64 (was.high +ℤ more) fits in
            let spare = ap (λ (t : Span). t.spare) (raised-there s e (may.0 e)) in
            omega (arith, ints, there, old, now, spare)
        | inr e ↦
            let there = h.0 in
            let same = ap (λ (l : Lift). l.high) (lift_of-other lifts j was at lift s e) in
            let spare = ap (λ (l : Lift). (lifted_by l.add s).spare) (lift_of-other lifts j was at lift s e) in
            omega (arith, ints, there, same, spare)
      ] in
      (here, AreCovered-raised low ss may.1 h.1)

-- the first of all spans need not be covered, so that another may be set there
pub AreCovered-first : (lifts : List Lift) (spans : List Span) (i : ℕ) (s : Span) → i ≡ 0 → AreCovered lifts (drop 1 spans) → AreCovered lifts (drop 1 (set spans i s))
AreCovered-first lifts spans i s first h = subst (AreCovered lifts) (sym (drop-set-lt 1 spans i s (omega (arith, first)))) h

-- the spans that are not the first of all once one is put in at an index
abbrev pub others_at : ℕ → List Span → List Span
others_at zero spans = spans
others_at (suc i) spans = drop 1 spans

-- where the lift of a span is put above its capacity
module _ (lifts : List Lift) (s : Span) (was : Lift) (at : slice_get lifts (mark_index s.end) ≡ Some was) where
  abbrev pub over : List Lift
  over = set lifts (mark_index s.end) (record was { high = int_max was.high s.spare })

  -- all others stay below theirs
  pub AreCovered-over : (spans : List Span) → AreCovered lifts spans → AreCovered over spans
  AreCovered-over spans h =
      let high : was.high ≤ℤ int_max was.high s.spare = omega (arith, ints, clamps) in
      let below = AreAtMost-more (mark_index s.end) was.high (int_max was.high s.spare) high (lifted lifts spans) (AreAtMost-covered lifts (mark_index s.end) was at spans h) in
      AreCovered-set lifts (mark_index s.end) was at (record was { high = int_max was.high s.spare }) refl spans below h

  -- and so is the span itself, where it stands
  pub AreCovered-there : (spans : List Span) (i : ℕ) → slice_get (lifted lifts spans) i ≡ Some s → AreCovered lifts (drop 1 spans) → AreCovered over (others_at i spans)
  AreCovered-there [] i e h = cc
  AreCovered-there (t ∷ ts) (suc i) e h = AreCovered-over ts h
  AreCovered-there (t ∷ ts) zero e h =
      let lift : Lift = record was { high = int_max was.high s.spare } in
      let same = same_Some (lifted_in lifts t) s e in
      let mark : mark_index t.end ≡ mark_index s.end = ap (λ (r : Span). mark_index r.end) same in
      let spare = ap (λ (r : Span). r.spare) (lifted_in-same lifts (mark_index s.end) was at lift t refl ∙ same) in
      let bound = ap (λ (l : Lift). l.high) (lift_of-set lifts (mark_index s.end) was at lift t mark) in
      let high : s.spare ≤ℤ int_max was.high s.spare = omega (arith, ints, clamps) in
      (omega (arith, ints, spare, bound, high), AreCovered-over ts h)

  -- and no span changes
  pub lifted-over : (spans : List Span) → lifted over spans ≡ lifted lifts spans
  lifted-over spans = lifted-same lifts (mark_index s.end) was at (record was { high = int_max was.high s.spare }) refl spans

  -- what the shelf has of the span is the span
  pub lifted-put : FitsSigned w64 s.spare → lifted_in over (lowered_by was.add s) ≡ s
  lifted-put fits =
      let there = lift_of-set lifts (mark_index s.end) was at (record was { high = int_max was.high s.spare }) (lowered_by was.add s) refl in
      ap (λ (l : Lift). lifted_by l.add (lowered_by was.add s)) there ∙ lifted-lowered was.add s fits

  -- which is below its lift
  IsCovered-put : FitsSigned w64 s.spare → (lifted_in over (lowered_by was.add s)).spare ≤ℤ (lift_of over (lowered_by was.add s)).high
  IsCovered-put fits =
      let there = ap (λ (l : Lift). l.high) (lift_of-set lifts (mark_index s.end) was at (record was { high = int_max was.high s.spare }) (lowered_by was.add s) refl) in
      let spare = ap (λ (t : Span). t.spare) (lifted-put fits) in
      let high : s.spare ≤ℤ int_max was.high s.spare = omega (arith, ints, clamps) in
      omega (arith, ints, there, spare, high)

  -- the spans where it is set, put in or appended
  pub lifted-set : FitsSigned w64 s.spare → (spans : List Span) (i : ℕ) → lifted over (set spans i (lowered_by was.add s)) ≡ set (lifted lifts spans) i s
  lifted-set fits spans i = map-set (lifted_in over) spans i (lowered_by was.add s) ∙ (λ k. set (lifted-over spans k) i (lifted-put fits k))

  pub lifted-insert : FitsSigned w64 s.spare → (spans : List Span) (i : ℕ) → lifted over (insert spans i (lowered_by was.add s)) ≡ insert (lifted lifts spans) i s
  lifted-insert fits spans i = map-insert (lifted_in over) spans i (lowered_by was.add s) ∙ (λ k. insert (lifted-over spans k) i (lifted-put fits k))

  pub lifted-push : FitsSigned w64 s.spare → (spans : List Span) → lifted over (spans ++ lowered_by was.add s ∷ []) ≡ lifted lifts spans ++ s ∷ []
  lifted-push fits spans = map_push (lifted_in over) spans (lowered_by was.add s) ∙ (λ k. lifted-over spans k ++ lifted-put fits k ∷ [])

  abbrev IsCovered : Span → Type 0
  IsCovered t = (lifted_in over t).spare ≤ℤ (lift_of over t).high

  module _ (fits : FitsSigned w64 s.spare) where
    each : (spans : List Span) → AreCovered lifts spans → All IsCovered spans
    each spans h = All-from_recursion IsCovered spans (AreCovered-over spans h)

    -- so are all but the first where it is set, put in or appended
    pub AreCovered-put : (spans : List Span) (i : ℕ) → (i ≡ 0 → ⊥) → AreCovered lifts (drop 1 spans) → AreCovered over (drop 1 (set spans i (lowered_by was.add s)))
    AreCovered-put [] zero other h = tt
    AreCovered-put [] (suc i) other h = tt
    AreCovered-put (t ∷ ts) zero other h = absurd (other refl)
    AreCovered-put (t ∷ ts) (suc i) other h =
        recursion_from_All IsCovered _ (All-set IsCovered ts i (lowered_by was.add s) (IsCovered-put fits) (each ts h))

    pub AreCovered-insert : (spans : List Span) (i : ℕ) → i < length spans → AreCovered lifts (others_at i spans) → AreCovered over (drop 1 (insert spans i (lowered_by was.add s)))
    AreCovered-insert [] i within h = absurd (omega (arith, within))
    AreCovered-insert (t ∷ ts) zero within h = AreCovered-over (t ∷ ts) h
    AreCovered-insert (t ∷ ts) (suc i) within h =
        let behind = All-cons IsCovered (lowered_by was.add s) (drop i ts) (IsCovered-put fits) (All-drop IsCovered i ts (each ts h)) in
        recursion_from_All IsCovered _ (All-append IsCovered (take i ts) (lowered_by was.add s ∷ drop i ts) (All-take IsCovered i ts (each ts h)) behind)

    pub AreCovered-push : (spans : List Span) → AreCovered lifts (drop 1 spans) → AreCovered over (drop 1 (spans ++ lowered_by was.add s ∷ []))
    AreCovered-push [] h = tt
    AreCovered-push (t ∷ ts) h =
        let last = All-cons IsCovered (lowered_by was.add s) [] (IsCovered-put fits) (All-nil IsCovered) in
        recursion_from_All IsCovered _ (All-append IsCovered ts (lowered_by was.add s ∷ []) (each ts h) last)

-- what is read where the shelf has a span
pub slice_get-lifted : (lifts : List Lift) (spans : List Span) (i j : ℕ) (s : Span) (lift : Lift) → slice_get spans i ≡ Some s → j ≡ mark_index s.end → slice_get lifts j ≡ Some lift → slice_get (lifted lifts spans) i ≡ Some (lifted_by lift.add s)
slice_get-lifted lifts spans i j s lift at mark there =
    slice_get-map (lifted_in lifts) spans i ∙ ap (option_map (lifted_in lifts)) at
    ∙ ap (λ (l : Lift). Some (lifted_by l.add s)) (lift_of-there lifts j lift there s (sym mark))

-- and what the shelf has where a span is read
pub shelf-at : (lifts : List Lift) (spans : List Span) (i : ℕ) (span : Span) → slice_get (lifted lifts spans) i ≡ Some span → (s : Span) × (slice_get spans i ≡ Some s) × (lifted_in lifts s ≡ span)
shelf-at lifts [] i span e = cc
shelf-at lifts (s ∷ ss) zero span e = (s, refl, same_Some (lifted_in lifts s) span e)
shelf-at lifts (s ∷ ss) (suc i) span e = shelf-at lifts ss i span e
