-- Lists of which no two places have one value, and numbers that rise.
use Rattle.std.proofs.Common.{◌≡◌, ℕ, ◌<◌, ◌≤◌, Bool, true, false, cond, List, [], ◌∷◌, ◌++◌, map, filter, refl, sym, ◌∙◌, inl, inr, arith}
use Rattle.std.specs.Prelude.{count_by}
use Rattle.std.proofs.lemmas.Bool.{cases_Bool, cond-true, cond-false, false_from_ne_true}
use Rattle.std.proofs.lemmas.List.Sums.{sum_by-cons}
use Rattle.slot_core.specs.Runs.Rising.{AreRising}
use Rattle.slot_facts.proofs.Lists.Members.{Has, Has-map, Has-filter_passes}
use Rattle.slot_facts.proofs.Offline.DistinctKeys.{IsApart}

-- a filtered list
IsApart-cond : {X Y : Type 0} (f : X → Y) (b : Bool) (x : X) (xs : List X) → IsApart f xs → ((y : X) → Has xs y → f x ≡ f y → ⊥) → IsApart f (cond b (x ∷ xs) xs)
IsApart-cond f true x xs apart none = (none, apart)
IsApart-cond f false x xs apart none = apart

pub IsApart-filter : {X Y : Type 0} (f : X → Y) (p : X → Bool) (xs : List X) → IsApart f xs → IsApart f (filter p xs)
IsApart-filter f p [] apart = tt
IsApart-filter f p (x ∷ xs) apart =
    IsApart-cond f (p x) x (filter p xs) (IsApart-filter f p xs apart.1) (λ y at. apart.0 y (Has-filter_passes p xs y at).0)

-- where each member fails, none counts
pub count-none : {X : Type 0} (p : X → Bool) (xs : List X) → ((x : X) → Has xs x → p x ≡ false) → count_by p xs ≡ 0
count-none p [] fails = refl
count-none p (x ∷ xs) fails =
    omega (arith, sum_by-cons (λ y. cond (p y) 1 0) x xs, cond-false {A = ℕ} (p x) 1 0 (fails x (inl refl)), count-none p xs (λ y at. fails y (inr at)))

-- where a test tells of one value, at most one member passes
pub count_by-apart : {X Y : Type 0} (f : X → Y) (p : X → Bool) (v : Y) (xs : List X) → ((x : X) → p x ≡ true → f x ≡ v) → IsApart f xs → count_by p xs ≤ 1
count_by-apart f p v [] tells apart = omega arith
count_by-apart f p v (x ∷ xs) tells apart =
    let rest = count_by-apart f p v xs tells apart.1 in
    let sum = sum_by-cons (λ y. cond (p y) 1 0) x xs in
    elim (cases_Bool (p x)) [
      | inl passes ↦
          let none = count-none p xs (λ y at. false_from_ne_true (p y) (λ other. apart.0 y at (tells x passes ∙ sym (tells y other)))) in
          omega (arith, none, sum, cond-true {A = ℕ} (p x) 1 0 passes)
      | inr fails ↦ omega (arith, rest, sum, cond-false {A = ℕ} (p x) 1 0 fails)
    ]

-- numbers that rise, with one more above them all
pub AreRising-push : (start : ℕ) (xs : List ℕ) (n : ℕ) → AreRising start xs → start < n → ((x : ℕ) → Has xs x → x < n) → AreRising start (xs ++ n ∷ [])
AreRising-push start [] n rising low below = (low, tt)
AreRising-push start (x ∷ xs) n rising low below =
    (rising.0, AreRising-push x xs n rising.1 (below x (inl refl)) (λ y at. below y (inr at)))

-- each is above the start
pub above-from_rising : (start : ℕ) (xs : List ℕ) (x : ℕ) → AreRising start xs → Has xs x → start < x
above-from_rising start [] x rising at = absurd at
above-from_rising start (y ∷ xs) x rising (inl e) = omega (arith, rising.0)
above-from_rising start (y ∷ xs) x rising (inr at) = omega (arith, rising.0, above-from_rising y xs x rising.1 at)

-- they rise from each lower start
pub AreRising-lower : (low start : ℕ) (xs : List ℕ) → low ≤ start → AreRising start xs → AreRising low xs
AreRising-lower low start [] le rising = tt
AreRising-lower low start (x ∷ xs) le rising = (omega (arith, rising.0), rising.1)

-- no two of them are equal
pub apart-from_rising : {X : Type 0} (f : X → ℕ) (start : ℕ) (xs : List X) → AreRising start (map f xs) → IsApart f xs
apart-from_rising f start [] rising = tt
apart-from_rising f start (x ∷ xs) rising =
    (λ y at e. absurd (omega (arith, above-from_rising (f x) (map f xs) (f y) rising.1 (Has-map f xs y at))), apart-from_rising f (f x) xs rising.1)
