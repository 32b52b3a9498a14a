-- What the figures are.
use Rattle.std.specs.Prelude.{◌≡◌, ◌<◌, ◌≤◌, ◌^◌, ℕ, ◌*◌, List, count_by, length, nat_le, slice_get, sum, Some}
use Rattle.std.specs.List.Sorted.{IsNonDecreasing}
use Rattle.slot_core.specs.Runs.Matches.{HaveSameItems}
use Rattle.view_stats.specs.Figures.{total}
use Rattle.view_stats.specs.Ordered.{ascending, nearest_rank}

-- numbers in ascending order are the same numbers
abbrev pub OrderKeepsNumbers : Type 0
OrderKeepsNumbers = (numbers : List ℕ) → HaveSameItems numbers (ascending numbers)

-- and none of them is above a later one
abbrev pub OrderRises : Type 0
OrderRises = (numbers : List ℕ) → IsNonDecreasing (ascending numbers)

-- at least 95 of 100 of the numbers do not exceed the one of the nearest rank
abbrev pub MostDoNotExceed : Type 0
MostDoNotExceed =
    (numbers : List ℕ) (most : ℕ)
    → slice_get (ascending numbers) (nearest_rank (length numbers)) ≡ Some most
    → 95 * length numbers ≤ 100 * count_by (λ n. nat_le n most) numbers

-- a sum is that of the numbers, where a counter holds it
abbrev pub SumsAreExact : Type 0
SumsAreExact = (numbers : List ℕ) → sum numbers < 2 ^ 64 → total numbers ≡ sum numbers
