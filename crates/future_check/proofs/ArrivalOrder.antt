-- Arrivals put in order: they are the same arrivals, none comes before an earlier one, and no other list of them does so.
use Rattle.std.proofs.Common.{◌≡◌, ℕ, suc, ◌+◌, Bool, true, false, ◌&&◌, ◌==◌, List, [], ◌∷◌, get_or, refl, sym, ap, ap₂, subst, inl, inr, arith}
use Rattle.std.specs.Prelude.{IsPermutation, ⊤}
use Rattle.std.specs.Cmp.Derive.{both_true}
use Rattle.std.specs.List.{AllByRecursion}
use Rattle.std.specs.List.Sorted.{IsSortedBy}
use Rattle.std.proofs.lemmas.Bool.{and_parts, cases_Bool, eq-eqb, eqb-true}
use Rattle.std.proofs.lemmas.Bool.Decides.{nat_tests}
use Rattle.std.proofs.lemmas.Cmp.{nat_list_cmp_total}
use Rattle.std.proofs.lemmas.List.Elements.{recursion_from_All}
use Rattle.std.proofs.lemmas.List.Sorted.{ranks_by, sorted_far, IsPermutation-refl, IsPermutation-sym, IsPermutation-trans, IsPermutation-cons, IsPermutation-middle}
use Rattle.std.proofs.lemmas.List.Sums.{sum_by-cons}
use Rattle.slot_core.specs.Runs.Matches.{HaveSameItems}
use Rattle.slot_facts.proofs.Lists.Members.{Has, AllByRecursion-at_Has, AllByRecursion-weaker}
use Rattle.slot_facts.proofs.Lists.Permuted.{AllByRecursion-permuted}
use Rattle.slot_facts.proofs.Lists.SameItems.{passes-same, same-from_permutation, same-sym}
use Rattle.future_check.specs.Explanations.{arrival_order, goes_before, with_arrival, in_time_order}

-- an arrival
abbrev Coming : Type 0
Coming = ℕ × ℕ

-- the second arrival does not go before the first
abbrev MayFollow : Coming → Coming → Type 0
MayFollow a b = goes_before b a ≡ false

-- of two arrivals that go one before the other the second may follow the first
MayFollow-before : (i s j t : ℕ) → goes_before (i, s) (j, t) ≡ true → MayFollow (i, s) (j, t)
MayFollow-before i s j t before = grind (arith, nat_tests)

MayFollow-trans : (i s j t k u : ℕ) → MayFollow (i, s) (j, t) → MayFollow (j, t) (k, u) → MayFollow (i, s) (k, u)
MayFollow-trans i s j t k u first second = grind (arith, nat_tests)

-- where either may follow the other they are one
level : (i s j t : ℕ) → MayFollow (i, s) (j, t) → MayFollow (j, t) (i, s) → (i ≡ j) × (s ≡ t)
level i s j t there back = (grind (arith, nat_tests), grind (arith, nat_tests))

one-from_level : (a b : Coming) → MayFollow a b → MayFollow b a → a ≡ b
one-from_level (i, s) (j, t) there back =
    let both = level i s j t there back in
    ap₂ (λ n m. (n, m)) both.0 both.1

-- each arrival may be followed by all that stand after it
abbrev pub AreInTimeOrder : List Coming → Type 0
AreInTimeOrder [] = ⊤
AreInTimeOrder (a ∷ pattern) = AllByRecursion (MayFollow a) pattern × AreInTimeOrder pattern

-- an arrival put among others stands there with them, and nothing else does
IsPermutation-with_arrival : (a : Coming) (pattern : List Coming) → IsPermutation (a ∷ pattern) (with_arrival a pattern)
IsPermutation-with_arrival a [] = IsPermutation-refl (a ∷ [])
IsPermutation-with_arrival a (b ∷ pattern) =
    elim (cases_Bool (goes_before b a)) [
      | inl before ↦
          let swap = IsPermutation-sym (b ∷ a ∷ pattern) (a ∷ b ∷ pattern) (IsPermutation-middle (b ∷ []) a pattern) in
          let rest = IsPermutation-cons b (a ∷ pattern) (with_arrival a pattern) (IsPermutation-with_arrival a pattern) in
          rw before (IsPermutation-trans (a ∷ b ∷ pattern) (b ∷ a ∷ pattern) (b ∷ with_arrival a pattern) swap rest)
      | inr after ↦ rw after (IsPermutation-refl (a ∷ b ∷ pattern))
    ]

-- arrivals put in order are the same arrivals
pub IsPermutation-in_time_order : (pattern : List Coming) → IsPermutation pattern (in_time_order pattern)
IsPermutation-in_time_order [] = IsPermutation-refl []
IsPermutation-in_time_order (a ∷ pattern) =
    let later = in_time_order pattern in
    let rest = IsPermutation-cons a pattern later (IsPermutation-in_time_order pattern) in
    IsPermutation-trans (a ∷ pattern) (a ∷ later) (with_arrival a later) rest (IsPermutation-with_arrival a later)

-- an arrival put among ordered ones is in order with them
AreInTimeOrder-with_arrival : (a : Coming) (pattern : List Coming) → AreInTimeOrder pattern → AreInTimeOrder (with_arrival a pattern)
AreInTimeOrder-with_arrival a [] ordered = (tt, tt)
AreInTimeOrder-with_arrival a (b ∷ pattern) ordered =
    elim (cases_Bool (goes_before b a)) [
      | inl before ↦
          let own : MayFollow b a = MayFollow-before b.0 b.1 a.0 a.1 before in
          let among = AllByRecursion-permuted (MayFollow b) (a ∷ pattern) (with_arrival a pattern) (IsPermutation-with_arrival a pattern) (own, ordered.0) in
          rw before (among, AreInTimeOrder-with_arrival a pattern ordered.1)
      | inr after ↦
          let rest = AllByRecursion-weaker (MayFollow b) (MayFollow a) pattern (λ d next. MayFollow-trans a.0 a.1 b.0 b.1 d.0 d.1 after next) ordered.0 in
          rw after ((after, rest), ordered)
    ]

-- arrivals put in order are in order
AreInTimeOrder-in_order : (pattern : List Coming) → AreInTimeOrder (in_time_order pattern)
AreInTimeOrder-in_order [] = tt
AreInTimeOrder-in_order (a ∷ pattern) =
    AreInTimeOrder-with_arrival a (in_time_order pattern) (AreInTimeOrder-in_order pattern)

-- sorted arrivals are in order
AreInTimeOrder-from_sorted : (pattern : List Coming) → IsSortedBy goes_before pattern → AreInTimeOrder pattern
AreInTimeOrder-from_sorted [] up = tt
AreInTimeOrder-from_sorted (a ∷ pattern) up =
    let order = ranks_by nat_list_cmp_total arrival_order in
    let first = recursion_from_All (MayFollow a) pattern λ k d within.
    sorted_far goes_before order (a ∷ pattern) up 0 (suc k) d (omega arith) (omega arith) in
    let later : IsSortedBy goes_before pattern = λ k d low within.
    let next : suc k + 1 ≡ suc (k + 1) = omega arith in
    subst (λ n. goes_before (get_or (a ∷ pattern) n d) (get_or pattern k d) ≡ false) next (up (suc k) d (omega arith) (omega arith)) in
    (first, AreInTimeOrder-from_sorted pattern later)

-- the test that tells arrivals apart
abbrev is_same : Coming → Coming → Bool
is_same a b = a.0 == b.0 && a.1 == b.1

is_same-itself : (a : Coming) → is_same a a ≡ true
is_same-itself a = both_true (eq-eqb a.0 a.0 refl) (eq-eqb a.1 a.1 refl)

one-from_same : (a b : Coming) → is_same a b ≡ true → a ≡ b
one-from_same a b same =
    let parts = and_parts (a.0 == b.0) (a.1 == b.1) same in
    ap₂ (λ n m. (n, m)) (eqb-true a.0 b.0 parts.0) (eqb-true a.1 b.1 parts.1)

-- an arrival of one list is one of the other
member-same : (xs ys : List Coming) (a : Coming) → HaveSameItems xs ys → Has xs a → Has ys a
member-same xs ys a same at =
    let twin = passes-same (is_same a) xs ys a same at (is_same-itself a) in
    subst (Has ys) (sym (one-from_same a twin.0 twin.2)) twin.1

-- two ordered lists with the same arrivals have the same first one
same_first : (x y : Coming) (xs ys : List Coming) → AreInTimeOrder (x ∷ xs) → AreInTimeOrder (y ∷ ys) → Has (y ∷ ys) x → Has (x ∷ xs) y → x ≡ y
same_first x y xs ys ox oy (inl e) back = sym e
same_first x y xs ys ox oy (inr there) (inl e) = e
same_first x y xs ys ox oy (inr there) (inr back) =
    one-from_level x y (AllByRecursion-at_Has (MayFollow x) xs y ox.0 back) (AllByRecursion-at_Has (MayFollow y) ys x oy.0 there)

-- so they are one list
same_in_order : (xs ys : List Coming) → AreInTimeOrder xs → AreInTimeOrder ys → HaveSameItems xs ys → xs ≡ ys
same_in_order [] [] ox oy same = refl
same_in_order [] (y ∷ ys) ox oy same = absurd (member-same (y ∷ ys) [] y (same-sym [] (y ∷ ys) same) (inl refl))
same_in_order (x ∷ xs) [] ox oy same = absurd (member-same (x ∷ xs) [] x same (inl refl))
same_in_order (x ∷ xs) (y ∷ ys) ox oy same =
    let there = member-same (x ∷ xs) (y ∷ ys) x same (inl refl) in
    let back = member-same (y ∷ ys) (x ∷ xs) y (same-sym (x ∷ xs) (y ∷ ys) same) (inl refl) in
    let first = same_first x y xs ys ox oy there back in
    let rest : HaveSameItems xs ys = λ f. omega (arith, same f, sum_by-cons f x xs, sum_by-cons f y ys, ap f first) in
    ap₂ (λ a pattern. a ∷ pattern) first (same_in_order xs ys ox.1 oy.1 rest)

-- sorted arrivals are the given ones in order
pub in_time_order-from_sorted : (pattern sorted : List Coming) → IsPermutation pattern sorted → IsSortedBy goes_before sorted → sorted ≡ in_time_order pattern
in_time_order-from_sorted pattern sorted permuted up =
    let own = in_time_order pattern in
    let same = IsPermutation-trans sorted pattern own (IsPermutation-sym pattern sorted permuted) (IsPermutation-in_time_order pattern) in
    same_in_order sorted own (AreInTimeOrder-from_sorted sorted up) (AreInTimeOrder-in_order pattern) (same-from_permutation sorted own same)
