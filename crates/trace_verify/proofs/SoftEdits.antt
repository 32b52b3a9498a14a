-- Each item of a list changed in its place.
use Rattle.std.proofs.Common.{◌≡◌, ℕ, zero, suc, ◌≤◌, List, [], ◌∷◌, ◌++◌, length, map, take, drop, refl, ap, arith}

-- at the end all are
pub map-all : {X : Type 0} (f : X → X) (xs : List X) (i : ℕ) → length xs ≤ i → map f (take i xs) ++ drop i xs ≡ map f xs
map-all f [] zero past = refl
map-all f [] (suc i) past = refl
map-all f (x ∷ xs) zero past = absurd (omega arith)
map-all f (x ∷ xs) (suc i) past = ap (λ ys. f x ∷ ys) (map-all f xs i (omega arith))

-- as many as before
pub length-map_front : {X : Type 0} (f : X → X) (xs : List X) (i : ℕ) → length (map f (take i xs) ++ drop i xs) ≡ length xs
length-map_front f [] zero = refl
length-map_front f [] (suc i) = refl
length-map_front f (x ∷ xs) zero = refl
length-map_front f (x ∷ xs) (suc i) = ap suc (length-map_front f xs i)
