-- Counts of the slots of a schedule.
use Rattle.std.proofs.Common.{◌≡◌, ℕ, suc, ◌+◌, ◌-◌, ◌<◌, ◌≤◌, max, Bool, true, false, ◌&&◌, ◌||◌, cond, List, [], ◌∷◌, Option, Some, None, refl, sym, ap, ◌∙◌, inl, inr, arith}
use Rattle.std.specs.Prelude.{slice_get, sum_by, count_by}
use Rattle.std.proofs.lemmas.Bool.{cases_Bool, cond-true, cond-false, or_cases, and_parts, false≢true, eqb-true}
use Rattle.std.proofs.lemmas.List.Sums.{sum_by-cons}
use Rattle.slot_core.specs.Claims.Schedules.{holds}

-- items that all stand in a window are no more than it has places; the first item stands at `base`
pub count_in_window : {X : Type 0} (p : X → Bool) (xs : List X) (base low high : ℕ) → ((v : ℕ) (x : X) → slice_get xs v ≡ Some x → p x ≡ true → (low ≤ base + v) × (base + v < high)) → count_by p xs ≤ high - max low base
count_in_window p [] base low high inside = omega arith
count_in_window p (x ∷ xs) base low high inside =
    let rest = count_in_window p xs (base + 1) low high (λ v y at passes. let r = inside (suc v) y at passes in (omega (arith, r), omega (arith, r))) in
    let sum = sum_by-cons (λ y. cond (p y) 1 0) x xs in
    elim (cases_Bool (p x)) [
      | inl passes ↦ let r = inside 0 x refl passes in omega (arith, rest, sum, cond-true {A = ℕ} (p x) 1 0 passes, r)
      | inr fails ↦ omega (arith, rest, sum, cond-false {A = ℕ} (p x) 1 0 fails)
    ]

-- a slot that holds a number is this number
pub held_number : (n : ℕ) (slot : Option ℕ) → holds n slot ≡ true → slot ≡ Some n
held_number n None h = absurd (false≢true h)
held_number n (Some m) h = ap Some (sym (eqb-true n m h))

-- the slot holds the number of an item that passes, where the items are numbered from n on
abbrev pub holds_passing : {X : Type 0} → (X → Bool) → ℕ → List X → Option ℕ → Bool
holds_passing test n [] slot = false
holds_passing test n (x ∷ xs) slot = (test x && holds n slot) || holds_passing test (n + 1) xs slot

-- an item that passes, and the slot that holds its number
pub record IsHeld {X : Type 0} (test : X → Bool) (n : ℕ) (xs : List X) (slot : Option ℕ) (k m : ℕ) (x : X) : Type 0 where
  pub number : n + k ≡ m
  pub held : slot ≡ Some m
  pub listed : slice_get xs k ≡ Some x
  pub passes : test x ≡ true

-- such a slot holds the number of an item that passes
pub held_item : {X : Type 0} (test : X → Bool) (n : ℕ) (xs : List X) (slot : Option ℕ) → holds_passing test n xs slot ≡ true → (k m : ℕ) × (x : X) × IsHeld test n xs slot k m x
held_item test n [] slot h = absurd (false≢true h)
held_item test n (x ∷ xs) slot h =
    let later = held_item test (n + 1) xs slot in
    elim (or_cases (test x && holds n slot) (holds_passing test (n + 1) xs slot) h) [
      | inl here ↦
          let parts = and_parts (test x) (holds n slot) here in
          (0, n, x, record { number = omega arith; held = held_number n slot parts.1; listed = refl; passes = parts.0 })
      | inr there ↦
          let r = later there in
          (suc r.0, r.1, r.2, record { number = omega (arith, r.3.number); held = r.3.held; listed = r.3.listed; passes = r.3.passes })
    ]

-- of two tests that never both hold, at most one counts
one_of_two : (a b : Bool) → (a ≡ true → b ≡ true → ⊥) → cond a 1 0 + cond b 1 0 ≤ cond (a || b) 1 0
one_of_two true true apart = absurd (apart refl refl)
one_of_two true false apart = omega arith
one_of_two false b apart = omega arith

-- so what passes one or the other is no less than what passes the one and what passes the other
count_by-or-le : {X : Type 0} (p q : X → Bool) (xs : List X) → ((x : X) → p x ≡ true → q x ≡ true → ⊥) → count_by p xs + count_by q xs ≤ count_by (λ x. p x || q x) xs
count_by-or-le p q [] apart = omega arith
count_by-or-le p q (x ∷ xs) apart =
    omega (arith, count_by-or-le p q xs apart, one_of_two (p x) (q x) (apart x), sum_by-cons (λ y. cond (p y) 1 0) x xs, sum_by-cons (λ y. cond (q y) 1 0) x xs, sum_by-cons (λ y. cond (p y || q y) 1 0) x xs)

-- a slot that holds a later number does not hold n
holds_later : {X : Type 0} (test : X → Bool) (n : ℕ) (xs : List X) (b : Bool) (slot : Option ℕ) → (b && holds n slot) ≡ true → holds_passing test (n + 1) xs slot ≡ true → ⊥
holds_later test n xs b slot one later =
    let r = held_item test (n + 1) xs slot later in
    let same : Some n ≡ Some r.1 = sym (held_number n slot (and_parts b (holds n slot) one).1) ∙ r.3.held in
    let number : n ≡ r.1 = cc same in
    omega (arith, r.3.number)

-- where each item that passes has its slots, the slots of these items are no more than those that hold them
pub sum_by-le_slots : {X : Type 0} (test : X → Bool) (left : X → ℕ) (n : ℕ) (xs : List X) (slots : List (Option ℕ)) → ((k m : ℕ) (x : X) → n + k ≡ m → slice_get xs k ≡ Some x → test x ≡ true → left x ≤ count_by (holds m) slots) → sum_by (λ x. cond (test x) (left x) 0) xs ≤ count_by (holds_passing test n xs) slots
sum_by-le_slots test left n [] slots served = omega arith
sum_by-le_slots test left n (x ∷ xs) slots served =
    let rest = sum_by-le_slots test left (n + 1) xs slots (λ k m y e at. served (suc k) m y (omega arith) at) in
    let sum = sum_by-cons (λ y. cond (test y) (left y) 0) x xs in
    let both = count_by-or-le (λ o. test x && holds n o) (holds_passing test (n + 1) xs) slots (holds_later test n xs (test x)) in
    elim (cases_Bool (test x)) [
      | inl passes ↦
          let here = served 0 n x (omega arith) refl passes in
          omega (arith, rest, here, sum, both, cond-true {A = ℕ} (test x) (left x) 0 passes, ap (λ b. count_by (λ o. b && holds n o) slots) passes)
      | inr fails ↦ omega (arith, rest, sum, both, cond-false {A = ℕ} (test x) (left x) 0 fails)
    ]
