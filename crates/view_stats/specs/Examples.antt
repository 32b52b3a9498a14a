-- Worked figures: each holds by computing the definitions.
use Rattle.std.specs.Prelude.{◌≡◌, List, ℕ, [], ◌∷◌, Some, codes, refl}
use Rattle.view_stats.specs.Figures.{quotient, rounded}
use Rattle.view_stats.specs.Ordered.{ascending, distances, nearest_rank}

-- numbers in order, and how far they are apart
pub in_order : ascending (7 ∷ 2 ∷ 9 ∷ 2 ∷ []) ≡ 2 ∷ 2 ∷ 7 ∷ 9 ∷ []
in_order = refl

pub apart : distances (2 ∷ 2 ∷ 7 ∷ 9 ∷ []) ≡ 0 ∷ 5 ∷ 2 ∷ []
apart = refl

-- of 20 numbers the 19th, of 19 the last, of one that one
pub rank_of_20 : nearest_rank 20 ≡ 18
rank_of_20 = refl

pub rank_of_19 : nearest_rank 19 ≡ 18
rank_of_19 = refl

pub rank_of_1 : nearest_rank 1 ≡ 0
rank_of_1 = refl

-- 2 / 3 is 0.67, 1 / 8 is 0.13, since a half is rounded up
pub two_thirds : rounded 100 2 3 ≡ 67
two_thirds = refl

pub an_eighth : rounded 100 1 8 ≡ 13
an_eighth = refl
