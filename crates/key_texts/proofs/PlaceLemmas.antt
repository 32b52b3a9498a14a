-- The first place at which an item of a list passes a test.
use Rattle.std.proofs.Common.{◌≡◌, ℕ, zero, suc, ◌+◌, Bool, true, false, List, [], ◌∷◌, ◌++◌, length, Option, Some, None, refl, sym, ap, ◌∙◌, inl, inr, arith}
use Rattle.std.specs.Prelude.{slice_get, position}
use Rattle.std.specs.List.{position_from, list_any}
use Rattle.std.proofs.lemmas.Bool.{cases_Bool, false≢true, or_parts}
use Rattle.std.proofs.lemmas.Iterator.Adapters.{position_from-zero}

-- equal options hold equal values
pub Some_same : {X : Type 0} {x y : X} → Some x ≡ Some y → x ≡ y
Some_same same = cc

-- what stands at the place that is found from n on passes
position_from-Some : {X : Type 0} (p : X → Bool) (n i : ℕ) (xs : List X) → position_from p n xs ≡ Some i → (k : ℕ) × (n + k ≡ i) × (x : X) × (slice_get xs k ≡ Some x) × (p x ≡ true)
position_from-Some p n i [] found = absurd (cc found)
position_from-Some p n i (x ∷ xs) found =
    let later = position_from-Some p (n + 1) i xs in
    elim (cases_Bool (p x)) [
      | inl pass ↦ let here = rw pass at found in (0, omega (arith, Some_same here), x, refl, pass)
      | inr fail ↦
          let (k, sum, y, at, passes) = later (rw fail at found) in
          (suc k, omega (arith, sum), y, at, passes)
    ]

-- where no place is found from n on, each item fails
position_from-None : {X : Type 0} (p : X → Bool) (n : ℕ) (xs : List X) → position_from p n xs ≡ None → (i : ℕ) (x : X) → slice_get xs i ≡ Some x → p x ≡ false
position_from-None p n [] none i x at = absurd (cc at)
position_from-None p n (y ∷ xs) none zero x at =
    let same : y ≡ x = cc at in
    elim (cases_Bool (p y)) [
      | inl pass ↦ absurd (let found = rw pass at none in cc)
      | inr fail ↦ rw (← same) fail
    ]
position_from-None p n (y ∷ xs) none (suc i) x at =
    let later = position_from-None p (n + 1) xs in
    elim (cases_Bool (p y)) [
      | inl pass ↦ absurd (let found = rw pass at none in cc)
      | inr fail ↦ later (rw fail at none) i x at
    ]

-- what stands at the place that is found passes
pub position-Some : {X : Type 0} (p : X → Bool) (xs : List X) (i : ℕ) → position p xs ≡ Some i → (x : X) × (slice_get xs i ≡ Some x) × (p x ≡ true)
position-Some p xs i found =
    let (k, sum, x, at, passes) = position_from-Some p 0 i xs (sym (position_from-zero p xs) ∙ found) in
    let same : k ≡ i = omega (arith, sum) in
    (x, ap (slice_get xs) (sym same) ∙ at, passes)

-- where no place is found, each item fails
pub position-None : {X : Type 0} (p : X → Bool) (xs : List X) → position p xs ≡ None → (i : ℕ) (x : X) → slice_get xs i ≡ Some x → p x ≡ false
position-None p xs none = position_from-None p 0 xs (sym (position_from-zero p xs) ∙ none)

-- the place after a front whose items fail, counted from n
position_from-append : {X : Type 0} (p : X → Bool) (n : ℕ) (front : List X) (x : X) (rest : List X) → list_any p front ≡ false → p x ≡ true → position_from p n (front ++ x ∷ rest) ≡ Some (n + length front)
position_from-append p n [] x rest fails pass = rw pass (ap Some (omega arith))
position_from-append p n (y ∷ front) x rest fails pass =
    let (here, later) = or_parts (p y) (list_any p front) fails in
    let found = position_from-append p (n + 1) front x rest later pass in
    rw (here, found) (ap Some (omega arith))

-- no place is found from n on where each item fails
position_from-fails : {X : Type 0} (p : X → Bool) (n : ℕ) (xs : List X) → list_any p xs ≡ false → position_from p n xs ≡ None
position_from-fails p n [] fails = refl
position_from-fails p n (y ∷ xs) fails =
    let (here, later) = or_parts (p y) (list_any p xs) fails in
    rw here (position_from-fails p (n + 1) xs later)

-- the place after a front whose items fail
pub position-append : {X : Type 0} (p : X → Bool) (front : List X) (x : X) (rest : List X) → list_any p front ≡ false → p x ≡ true → position p (front ++ x ∷ rest) ≡ Some (length front)
position-append p front x rest fails pass =
    position_from-zero p (front ++ x ∷ rest) ∙ position_from-append p 0 front x rest fails pass ∙ ap Some (omega arith)

-- no place is found where each item fails
pub position-fails : {X : Type 0} (p : X → Bool) (xs : List X) → list_any p xs ≡ false → position p xs ≡ None
position-fails p xs fails = position_from-zero p xs ∙ position_from-fails p 0 xs fails

-- the place of the one item that passes
pub position-one : {X : Type 0} (p : X → Bool) (xs : List X) (i : ℕ) (x : X) → slice_get xs i ≡ Some x → p x ≡ true → ((j : ℕ) (y : X) → slice_get xs j ≡ Some y → p y ≡ true → j ≡ i) → position p xs ≡ Some i
position-one p xs i x at passes one = by_found (position p xs) refl
  where
    by_found : (o : Option ℕ) → position p xs ≡ o → o ≡ Some i
    by_found None found = absurd (false≢true (sym (position-None p xs found i x at) ∙ passes))
    by_found (Some j) found =
        let (y, there, same) = position-Some p xs j found in
        ap Some (one j y there same)
