-- Numbers in ascending order.
use Rattle.std.specs.Prelude.{ℕ, ◌-◌, ◌/◌, List, [], ◌∷◌, length, nat_le, if◌then◌else◌}

-- a number before the first one that is not below it
abbrev pub inserted : ℕ → List ℕ → List ℕ
inserted x [] = x ∷ []
inserted x (y ∷ ys) = if nat_le x y then x ∷ y ∷ ys else y ∷ inserted x ys

-- numbers in ascending order
abbrev pub ascending : List ℕ → List ℕ
ascending [] = []
ascending (x ∷ xs) = inserted x (ascending xs)

-- from each number to the next one
abbrev pub distances : List ℕ → List ℕ
distances [] = []
distances (x ∷ []) = []
distances (x ∷ y ∷ ys) = (y - x) ∷ distances (y ∷ ys)

-- the place of the number, among so many in ascending order, that 95 of 100 do not exceed: the
-- nearest rank, which leaves a twentieth of them behind it
abbrev pub nearest_rank : ℕ → ℕ
nearest_rank count = count - count / 20 - 1
