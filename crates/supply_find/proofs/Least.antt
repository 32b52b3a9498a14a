-- The least and the greatest of a function over a range, and the first place that passes.
use Rattle.std.proofs.Common.{◌≡◌, ℕ, zero, suc, ◌+◌, ◌<◌, ◌≤◌, min, max, Bool, true, false, ◌⊎◌, List, [], ◌∷◌, map, fold, Some, refl, sym, ap, ◌∙◌, subst, inl, inr, arith}
use Rattle.std.specs.Prelude.{find}
use Rattle.std.specs.List.{range_with_len}
use Rattle.std.proofs.lemmas.List.Sums.{fold-append}
use Rattle.std.proofs.lemmas.List.FromFn.{map-range_with_len_more}
use Rattle.std.proofs.lemmas.Bool.{cases_lt}
use Rattle.slot_facts.proofs.Lists.Members.{Has, Has-map, Has-map_cases, Has-range_with_len, Has-range_with_len_bounds}

-- the least of a number and those of a list
fold_min-start : (a : ℕ) (xs : List ℕ) → fold min a xs ≤ a
fold_min-start a [] = omega arith
fold_min-start a (x ∷ xs) = omega (arith, fold_min-start (min a x) xs)

fold_min-at : (a : ℕ) (xs : List ℕ) (x : ℕ) → Has xs x → fold min a xs ≤ x
fold_min-at a [] x at = absurd at
fold_min-at a (y ∷ xs) x (inl same) = omega (arith, same, fold_min-start (min a y) xs)
fold_min-at a (y ∷ xs) x (inr at) = fold_min-at (min a y) xs x at

fold_min-ge : (a m : ℕ) (xs : List ℕ) → m ≤ a → ((x : ℕ) → Has xs x → m ≤ x) → m ≤ fold min a xs
fold_min-ge a m [] low each = low
fold_min-ge a m (x ∷ xs) low each =
    fold_min-ge (min a x) m xs (omega (arith, each x (inl refl))) (λ y at. each y (inr at))

fold_min-reached : (a : ℕ) (xs : List ℕ) → (fold min a xs ≡ a) ⊎ Has xs (fold min a xs)
fold_min-reached a [] = inl refl
fold_min-reached a (x ∷ xs) =
    elim (fold_min-reached (min a x) xs) [
      | inl start ↦ elim (cases_lt x a) [
        | inl less ↦ let here : x ≡ fold min (min a x) xs = omega (arith, start) in inr (inl here)
        | inr more ↦ inl (omega (arith, start))
      ]
      | inr at ↦ inr (inr at)
    ]

module _ (f : ℕ → ℕ) (m a n : ℕ) where
  pub least-start : fold min m (map f (range_with_len a n)) ≤ m
  least-start = fold_min-start m (map f (range_with_len a n))

  pub least-at : (k : ℕ) → a ≤ k → k < a + n → fold min m (map f (range_with_len a n)) ≤ f k
  least-at k low high = fold_min-at m (map f (range_with_len a n)) (f k) (Has-map f (range_with_len a n) k (Has-range_with_len a n k low high))

  pub least-reached : (fold min m (map f (range_with_len a n)) ≡ m) ⊎ ((k : ℕ) × (a ≤ k) × (k < a + n) × (f k ≡ fold min m (map f (range_with_len a n))))
  least-reached =
      elim (fold_min-reached m (map f (range_with_len a n))) [
        | inl start ↦ inl start
        | inr at ↦
            let (k, listed, is) = Has-map_cases f (range_with_len a n) _ at in
            let bounds = Has-range_with_len_bounds a n k listed in
            inr (k, bounds.0, bounds.1, is)
      ]

  -- a value that is no more than all, and one of them
  pub least-is : (v k : ℕ) → v ≤ m → ((i : ℕ) → a ≤ i → i < a + n → v ≤ f i) → a ≤ k → k < a + n → f k ≡ v → fold min m (map f (range_with_len a n)) ≡ v
  least-is v k start each low high is =
      let most = least-at k low high in
      let all = fold_min-ge m v (map f (range_with_len a n)) start (λ x at.
      let (i, listed, same) = Has-map_cases f (range_with_len a n) x at in
      let bounds = Has-range_with_len_bounds a n i listed in
      let le : v ≤ x = omega (arith, each i bounds.0 bounds.1, same) in
      le) in
      omega (arith, most, all, is)

-- one number more
pub least-more : (f : ℕ → ℕ) (m a n : ℕ) → fold min m (map f (range_with_len a (n + 1))) ≡ min (fold min m (map f (range_with_len a n))) (f (a + n))
least-more f m a n =
    ap (fold min m) (map-range_with_len_more f a n (a + n) refl)
    ∙ fold-append min m (map f (range_with_len a n)) (f (a + n) ∷ [])

pub greatest-more : (f : ℕ → ℕ) (m a n : ℕ) → fold max m (map f (range_with_len a (n + 1))) ≡ max (fold max m (map f (range_with_len a n))) (f (a + n))
greatest-more f m a n =
    ap (fold max m) (map-range_with_len_more f a n (a + n) refl)
    ∙ fold-append max m (map f (range_with_len a n)) (f (a + n) ∷ [])

-- the first place of a range that passes
pub find-is : (p : ℕ → Bool) (a n k : ℕ) → a ≤ k → k < a + n → ((i : ℕ) → a ≤ i → i < k → p i ≡ false) → p k ≡ true → find p (range_with_len a n) ≡ Some k
find-is p a zero k low high fails passes = absurd (omega (arith, low, high))
find-is p a (suc n) k low high fails passes =
    elim (cases_lt a k) [
      | inl later ↦
          let here : p a ≡ false = fails a (omega arith) later in
          rw here (find-is p (a + 1) n k (omega arith) (omega arith) (λ i from upto. fails i (omega arith) upto) passes)
      | inr now ↦
          let same : k ≡ a = omega arith in
          let here : p a ≡ true = subst (λ i. p i ≡ true) same passes in
          rw here (ap Some (sym same))
    ]

-- no value of a range is more than the greatest
pub greatest-at : (f : ℕ → ℕ) (m a n k : ℕ) → a ≤ k → k < a + n → f k ≤ fold max m (map f (range_with_len a n))
greatest-at f m a zero k low high = absurd (omega (arith, low, high))
greatest-at f m a (suc n) k low high =
    let longer : n + 1 ≡ suc n = omega arith in
    let more : fold max m (map f (range_with_len a (suc n))) ≡ max (fold max m (map f (range_with_len a n))) (f (a + n)) = subst (λ i. fold max m (map f (range_with_len a i)) ≡ max (fold max m (map f (range_with_len a n))) (f (a + n))) longer (greatest-more f m a n) in
    elim (cases_lt k (a + n)) [
      | inl before ↦ omega (arith, more, greatest-at f m a n k low before)
      | inr last ↦
          let same : k ≡ a + n = omega (arith, last, high) in
          omega (arith, more, ap f same)
    ]

-- one of the values up to a place is the greatest
pub greatest-reached : (f : ℕ → ℕ) (n : ℕ) → (k : ℕ) × (k ≤ n) × (f k ≡ fold max 0 (map f (range_with_len 0 (n + 1))))
greatest-reached f zero = (0, omega arith, omega arith)
greatest-reached f (suc n) =
    let (k, low, is) = greatest-reached f n in
    let longer : n + 1 + 1 ≡ suc n + 1 = omega arith in
    let last : 0 + (n + 1) ≡ suc n = omega arith in
    let more : fold max 0 (map f (range_with_len 0 (suc n + 1))) ≡ max (fold max 0 (map f (range_with_len 0 (n + 1)))) (f (suc n)) = subst (λ i. fold max 0 (map f (range_with_len 0 (suc n + 1))) ≡ max (fold max 0 (map f (range_with_len 0 (n + 1)))) (f i)) last (subst (λ i. fold max 0 (map f (range_with_len 0 i)) ≡ max (fold max 0 (map f (range_with_len 0 (n + 1)))) (f (0 + (n + 1)))) longer (greatest-more f 0 0 (n + 1))) in
    elim (cases_lt (f k) (f (suc n))) [
      | inl greater ↦ (suc n, omega arith, omega (arith, more, is, greater))
      | inr less ↦ (k, omega (arith, low), omega (arith, more, is, less))
    ]
