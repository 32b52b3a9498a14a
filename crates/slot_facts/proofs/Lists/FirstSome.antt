-- The first value that a function gives along a range.
use Rattle.std.proofs.Common.{◌≡◌, ℕ, zero, suc, ◌+◌, ◌<◌, ◌≤◌, Option, Some, None, refl, ◌∙◌, inl, inr, arith}
use Rattle.std.specs.Option.{option_or}
use Rattle.std.specs.List.{range_with_len}
use Rattle.std.proofs.lemmas.Bool.{cases_eq}
use Rattle.slot_core.specs.Feasibility.Feasible.{first_some}
use Rattle.slot_facts.proofs.Sets.Faults.{option_or-None}

-- nothing is first where no value is there
pub first_some-from_none : {X : Type 0} (f : ℕ → Option X) (a n : ℕ) → ((k : ℕ) → a ≤ k → k < a + n → f k ≡ None) → first_some f (range_with_len a n) ≡ None
first_some-from_none f a zero none = refl
first_some-from_none f a (suc n) none =
    let here : f a ≡ None = none a (omega arith) (omega arith) in
    let later = first_some-from_none f (a + 1) n (λ k low high. none k (omega arith) (omega arith)) in
    rw here later

pub none-from_first_some : {X : Type 0} (f : ℕ → Option X) (a n : ℕ) → first_some f (range_with_len a n) ≡ None → (k : ℕ) → a ≤ k → k < a + n → f k ≡ None
none-from_first_some f a zero h k low high = absurd (omega arith)
none-from_first_some f a (suc n) h k low high =
    let parts = option_or-None (f a) (first_some f (range_with_len (a + 1) n)) h in
    let later = none-from_first_some f (a + 1) n parts.1 k in
    elim (cases_eq a k) [
      | inl same ↦ rw (← same) parts.0
      | inr other ↦ later (omega arith) (omega arith)
    ]

-- a value is first where none before it is there
pub first_some-found : {X : Type 0} (f : ℕ → Option X) (x : X) (a n k : ℕ) → a ≤ k → k < a + n → ((m : ℕ) → a ≤ m → m < k → f m ≡ None) → f k ≡ Some x → first_some f (range_with_len a n) ≡ Some x
first_some-found f x a zero k low high none here = absurd (omega arith)
first_some-found f x a (suc n) k low high none here =
    let later = first_some-found f x (a + 1) n k in
    elim (cases_eq a k) [
      | inl same ↦ rw (same, here) refl
      | inr other ↦ let first : f a ≡ None = none a (omega arith) (omega arith) in
          rw first (later (omega arith) (omega arith) (λ m l h. none m (omega arith) h) here)
    ]

pub found-from_first_some : {X : Type 0} (f : ℕ → Option X) (x : X) (a n : ℕ) → first_some f (range_with_len a n) ≡ Some x → (k : ℕ) × (a ≤ k) × (k < a + n) × (f k ≡ Some x)
found-from_first_some f x a zero h = absurd (cc h)
found-from_first_some f x a (suc n) h = go (f a) refl h (found-from_first_some f x (a + 1) n)
  where
    go : (o : Option _) → f a ≡ o → option_or o (first_some f (range_with_len (a + 1) n)) ≡ Some x → (first_some f (range_with_len (a + 1) n) ≡ Some x → (k : ℕ) × (a + 1 ≤ k) × (k < a + 1 + n) × (f k ≡ Some x)) → (k : ℕ) × (a ≤ k) × (k < a + suc n) × (f k ≡ Some x)
    go None at is later =
        let (k, low, high, found) = later is in
        (k, omega arith, omega arith, found)
    go (Some y) at is later = (a, omega arith, omega arith, at ∙ is)

-- functions that agree along the range give the same first value
pub first_some-agree : {X : Type 0} (f g : ℕ → Option X) (a n : ℕ) → ((k : ℕ) → a ≤ k → k < a + n → f k ≡ g k) → first_some f (range_with_len a n) ≡ first_some g (range_with_len a n)
first_some-agree f g a zero same = refl
first_some-agree f g a (suc n) same =
    let here : f a ≡ g a = same a (omega arith) (omega arith) in
    let later = first_some-agree f g (a + 1) n (λ k low high. same k (omega arith) (omega arith)) in
    rw (here, later) refl
