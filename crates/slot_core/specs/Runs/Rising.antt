-- Rising lists of times.
use Rattle.std.specs.Prelude.{ℕ, ◌<◌, List, [], ◌∷◌, ⊤}

-- the numbers rise from above the start
abbrev pub AreRising : ℕ → List ℕ → Type 0
AreRising start [] = ⊤
AreRising start (n ∷ ns) = (start < n) × AreRising n ns

-- the last of the points, or the start where there is none
abbrev pub last_point : ℕ → List ℕ → ℕ
last_point start [] = start
last_point start (p ∷ points) = last_point p points
