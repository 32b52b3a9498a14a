-- A list whose first items are changed, each in its place.
use Rattle.std.proofs.Common.{◌≡◌, ℕ, zero, suc, ◌<◌, List, [], ◌∷◌, ◌++◌, length, map, take, drop, set, get_or, refl, ap, arith}

-- the next item is as it was
pub get_or-changed : {X : Type 0} (f : X → X) (xs : List X) (i : ℕ) (d : X) → get_or (map f (take i xs) ++ drop i xs) i d ≡ get_or xs i d
get_or-changed f [] zero d = refl
get_or-changed f [] (suc i) d = refl
get_or-changed f (x ∷ xs) zero d = refl
get_or-changed f (x ∷ xs) (suc i) d = get_or-changed f xs i d

-- with it changed too, one more is
pub set-changed : {X : Type 0} (f : X → X) (xs : List X) (i : ℕ) (d : X) → i < length xs → set (map f (take i xs) ++ drop i xs) i (f (get_or xs i d)) ≡ map f (take (suc i) xs) ++ drop (suc i) xs
set-changed f [] i d low = absurd (omega arith)
set-changed f (x ∷ xs) zero d low = refl
set-changed f (x ∷ xs) (suc i) d low = ap (λ ys. f x ∷ ys) (set-changed f xs i d (omega arith))
