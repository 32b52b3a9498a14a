-- Maps over lists that are made from others, and maps that agree place by place.
use Rattle.std.proofs.Common.{◌≡◌, ℕ, zero, suc, ◌+◌, ◌<◌, List, [], ◌∷◌, ◌++◌, map, Some, refl, ap, ap₂, ◌∙◌, arith}
use Rattle.std.specs.Prelude.{slice_get, flat_map}
use Rattle.std.specs.List.{range_with_len, enumerate_from}
use Rattle.std.proofs.lemmas.List.{map-append}

-- a map over lists joined end to end
pub map-flat_map : {X Y Z : Type 0} (f : Y → Z) (h : X → List Y) (xs : List X) → map f (flat_map h xs) ≡ flat_map (λ x. map f (h x)) xs
map-flat_map f h [] = refl
map-flat_map f h (x ∷ xs) = map-append f (h x) (flat_map h xs) ∙ ap (λ ys. map f (h x) ++ ys) (map-flat_map f h xs)

pub map-map : {X Y Z : Type 0} (f : Y → Z) (h : X → Y) (xs : List X) → map f (map h xs) ≡ map (λ x. f (h x)) xs
map-map f h [] = refl
map-map f h (x ∷ xs) = ap (λ ys. f (h x) ∷ ys) (map-map f h xs)

-- lists that agree place by place
pub map-places : {X Y : Type 0} (f h : ℕ × X → Y) (xs : List X) (n : ℕ) → ((i j : ℕ) (x : X) → j ≡ n + i → slice_get xs i ≡ Some x → f (j, x) ≡ h (j, x)) → map f (enumerate_from n xs) ≡ map h (enumerate_from n xs)
map-places f h [] n each = refl
map-places f h (x ∷ xs) n each =
    let here : f (n, x) ≡ h (n, x) = each 0 n x (omega arith) refl in
    ap₂ (λ y ys. y ∷ ys) here (map-places f h xs (n + 1) (λ i j y at_j at. each (suc i) j y (omega arith) at))

pub flat_map-places : {X Y : Type 0} (f h : ℕ × X → List Y) (xs : List X) (n : ℕ) → ((i j : ℕ) (x : X) → j ≡ n + i → slice_get xs i ≡ Some x → f (j, x) ≡ h (j, x)) → flat_map f (enumerate_from n xs) ≡ flat_map h (enumerate_from n xs)
flat_map-places f h [] n each = refl
flat_map-places f h (x ∷ xs) n each =
    let here : f (n, x) ≡ h (n, x) = each 0 n x (omega arith) refl in
    ap₂ (λ y ys. y ++ ys) here (flat_map-places f h xs (n + 1) (λ i j y at_j at. each (suc i) j y (omega arith) at))

pub flat_map-ranges : {Y : Type 0} (f h : ℕ → List Y) (a b n : ℕ) → ((i j k : ℕ) → i < n → j ≡ a + i → k ≡ b + i → f j ≡ h k) → flat_map f (range_with_len a n) ≡ flat_map h (range_with_len b n)
flat_map-ranges f h a b zero each = refl
flat_map-ranges f h a b (suc n) each =
    let here : f a ≡ h b = each 0 a b (omega arith) (omega arith) (omega arith) in
    ap₂ (λ y ys. y ++ ys) here (flat_map-ranges f h (a + 1) (b + 1) n (λ i j k low at_j at_k. each (suc i) j k (omega arith) (omega arith) (omega arith)))
