-- Lifts that are passed, one after the other.
use Rattle.std.proofs.Common.{◌≡◌, ℕ, zero, suc, ◌+◌, ◌-◌, ◌≤◌, ◌<◌, ℤ, ◌+ℤ◌, ◌≤ℤ◌, w64, ◌==◌, Bool, true, false, List, set, get_or, slice_get, Some, refl, sym, ap, subst, ◌∙◌, add-zero, arith, inl, inr}
use Rattle.std.proofs.Math.Nat.{eq-or-lt_of_le}
use Rattle.std.proofs.Math.IntN.{+ℤ_assoc}
use Rattle.std.proofs.lemmas.Bool.{ne_eqb}
use Rattle.std.proofs.lemmas.Int.{int_wrap-add_left, int_wrap-add_right}
use Rattle.std.proofs.lemmas.List.{get_or-set_other}
use Rattle.std.proofs.lemmas.Option.{get_or_from_slice_get}
use Rattle.std.specs.Bool.{if◌then◌else◌}
use Rattle.std.specs.Int.{int_wrap}
use Rattle.node_chain.specs.declared.marks.Lift.{Lift}
use Rattle.node_chain.specs.declared.marks.Mark.{Mark}
use Rattle.node_chain.specs.Laps.{blank_lift, blank_mark, lift_over}
use Rattle.node_chain.specs.Passes.{lift_passed, lift_raised, lifts_passed, spans_ending}

-- a test for none, where there are some
some-of : {X : Type 0} (n : ℕ) (x y : X) → 1 ≤ n → (if n == 0 then x else y) ≡ y
some-of n x y some = ap (λ b. if b then x else y) (ne_eqb n 0 (λ e. absurd (omega (arith, some, e))))

-- a write that may be left out leaves the items before it alone
set-below : {X : Type 0} (b : Bool) (xs : List X) (j i : ℕ) (x d : X) → i < j → get_or (if b then xs else set xs j x) i d ≡ get_or xs i d
set-below true xs j i x d below = refl
set-below false xs j i x d below = get_or-set_other xs j i x d (λ e. absurd (omega (arith, below, e)))

-- a lift gets so much more where its sum does
pub lift_over-raised : (more top add : ℤ) → lift_over top (int_wrap w64 (add +ℤ more)) ≡ lift_raised more (lift_over top add)
lift_over-raised more top add =
    let high = int_wrap-add_right w64 top (add +ℤ more) ∙ ap (int_wrap w64) (sym (+ℤ_assoc top add more)) ∙ sym (int_wrap-add_left w64 (top +ℤ add) more) in
    λ i. record { high = high i; add = int_wrap w64 (add +ℤ more) }

-- the spans that end in the first page, and in those after it
pub ending-first : (marks : List Mark) (low n : ℕ) → spans_ending marks low (suc n) ≡ (get_or marks low blank_mark).count + spans_ending marks (suc low) n
ending-first marks low zero = ap (λ k. (get_or marks k blank_mark).count + 0) (add-zero low)
ending-first marks low (suc n) =
    let same : low + suc n ≡ suc low + n = omega arith in
    omega (arith, ending-first marks low n, ap (λ k. (get_or marks k blank_mark).count) same)

-- with one page more before them
pub ending-next : (marks : List Mark) (low end : ℕ) → low < end → spans_ending marks low (end - low) ≡ (get_or marks low blank_mark).count + spans_ending marks (low + 1) (end - (low + 1))
ending-next marks low end below =
    let next : end - low ≡ suc (end - suc low) = omega (arith, below) in
    let past : suc low ≡ low + 1 = omega arith in
    ap (spans_ending marks low) next ∙ ending-first marks low (end - suc low) ∙ ap (λ k. (get_or marks low blank_mark).count + spans_ending marks k (end - k)) past

module _ (more : ℤ) (marks : List Mark) where
  -- the lifts before those that are passed stay
  pub passed-below : (low n i : ℕ) (lifts : List Lift) (d : Lift) → i < low → get_or (lifts_passed more marks low n lifts) i d ≡ get_or lifts i d
  passed-below low zero i lifts d below = refl
  passed-below low (suc n) i lifts d below =
      passed-below low n i (lift_passed more marks (low + n) lifts) d below
      ∙ set-below ((get_or marks (low + n) blank_mark).count == 0) lifts (low + n) i (lift_raised more (get_or lifts (low + n) blank_lift)) d (omega (arith, below))

  -- the first is passed last
  pub passed-first : (low n : ℕ) (lifts : List Lift) → lifts_passed more marks low (suc n) lifts ≡ lift_passed more marks low (lifts_passed more marks (suc low) n lifts)
  passed-first low zero lifts = ap (λ k. lift_passed more marks k lifts) (add-zero low)
  passed-first low (suc n) lifts =
      let same : low + suc n ≡ suc low + n = omega arith in
      passed-first low n (lift_passed more marks (low + suc n) lifts)
      ∙ ap (λ k. lift_passed more marks low (lifts_passed more marks (suc low) n (lift_passed more marks k lifts))) same

  -- with one lift more before them
  pub passed-next : (low end : ℕ) (lifts : List Lift) → low < end → lifts_passed more marks low (end - low) lifts ≡ lift_passed more marks low (lifts_passed more marks (suc low) (end - suc low) lifts)
  passed-next low end lifts below =
      let next : end - low ≡ suc (end - suc low) = omega (arith, below) in
      ap (λ n. lifts_passed more marks low n lifts) next ∙ passed-first low (end - suc low) lifts

-- no lift from an index up to another is above a limit where a span ends
abbrev pub AreUnder : ℤ → List Mark → List Lift → ℕ → ℕ → Type 0
AreUnder limit marks lifts low end =
    (i : ℕ) (mark : Mark) (lift : Lift) → low ≤ i → i < end → slice_get marks i ≡ Some mark → slice_get lifts i ≡ Some lift → 1 ≤ mark.count → lift.high ≤ℤ limit

-- with one lift more before them
pub AreUnder-next : (limit : ℤ) (marks : List Mark) (lifts : List Lift) (low end : ℕ)
    → (1 ≤ (get_or marks low blank_mark).count → (get_or lifts low blank_lift).high ≤ℤ limit)
    → AreUnder limit marks lifts (suc low) end → AreUnder limit marks lifts low end
AreUnder-next limit marks lifts low end one rest i mark lift from below at over some = elim (eq-or-lt_of_le from) [
  | inl same ↦
      let mine = get_or_from_slice_get marks low mark blank_mark (ap (slice_get marks) same ∙ at) in
      let here = get_or_from_slice_get lifts low lift blank_lift (ap (slice_get lifts) same ∙ over) in
      subst (λ (l : Lift). l.high ≤ℤ limit) here (one (omega (arith, some, ap (λ (m : Mark). m.count) mine)))
  | inr above ↦ rest i mark lift above below at over some
]

-- lifts, where those after one of the indexes are passed
module _ (more : ℤ) (marks : List Mark) (xs ys : List Lift) (k e : ℕ) (was : ys ≡ lifts_passed more marks (k + 1) (e - (k + 1)) xs) where
  -- the index after it
  next : suc k ≡ k + 1
  next = omega arith

  -- what is known, at that index
  past : ys ≡ lifts_passed more marks (suc k) (e - suc k) xs
  past = was ∙ ap (λ n. lifts_passed more marks n (e - n) xs) (sym next)

  -- the lift at the index is as it was
  pub lift-kept : (d : Lift) → get_or ys k d ≡ get_or xs k d
  lift-kept d = ap (λ zs. get_or zs k d) past ∙ passed-below more marks (suc k) (e - suc k) k xs d (omega arith)

  module _ (below : k < e) where
    -- it stays where no span ends
    pub stays : (get_or marks k blank_mark).count ≡ 0 → ys ≡ lifts_passed more marks k (e - k) xs
    stays none =
        let whole = lifts_passed more marks (suc k) (e - suc k) xs in
        past ∙ ap (λ n. if n == 0 then whole else set whole k (lift_raised more (get_or whole k blank_lift))) (sym none) ∙ sym (passed-next more marks k e xs below)

    -- it is passed where one ends
    pub passes : (y : Lift) → 1 ≤ (get_or marks k blank_mark).count → y ≡ lift_raised more (get_or ys k blank_lift) → set ys k y ≡ lifts_passed more marks k (e - k) xs
    passes y some is =
        let whole = lifts_passed more marks (suc k) (e - suc k) xs in
        (λ i. set (past i) k ((is ∙ ap (λ zs. lift_raised more (get_or zs k blank_lift)) past) i))
        ∙ sym (some-of (get_or marks k blank_mark).count whole (set whole k (lift_raised more (get_or whole k blank_lift))) some)
        ∙ sym (passed-next more marks k e xs below)
