-- Tables that rise by at most one at a time, told by the ends at which they are flat.
use Rattle.std.specs.Prelude.{◌≡◌, ℕ, ◌+◌, ◌-◌, ◌≤◌, ◌<◌, ◌==◌, ◌&&◌, ◌||◌, Bool, false, min, List, length, map, filter, slice_index, nat_lt}
use Rattle.std.specs.List.{range_with_len}
use Rattle.supply_find.specs.declared.supply.Supply.{Supply}

-- the numbers of slots of a table
abbrev pub slots_of : List Supply → List ℕ
slots_of table = map (λ (s : Supply). s.slots) table

-- at this place a flat stretch of the table ends: the number before is the same, and the next is
-- greater; the last place is such an end
abbrev pub is_flat_end : List ℕ → ℕ → Bool
is_flat_end numbers place =
    place + 1 == length numbers
    || (slice_index numbers (place - 1) == slice_index numbers place
    && nat_lt (slice_index numbers place) (slice_index numbers (place + 1)))

-- the places from 1 on at which the table is so
abbrev pub flat_ends : List ℕ → List ℕ
flat_ends numbers = filter (is_flat_end numbers) (range_with_len 1 (length numbers - 1))

-- each number is the one before, or one more
abbrev pub RiseSlowly : List ℕ → Type 0
RiseSlowly numbers =
    (place : ℕ) → place + 1 < length numbers
    → (slice_index numbers place ≤ slice_index numbers (place + 1))
    × (slice_index numbers (place + 1) ≤ slice_index numbers place + 1)

-- between two places, with no flat end between them, the number rises by one at each place, up to
-- that of the second
abbrev pub NumbersAreReadBetween : Type 0
NumbersAreReadBetween =
    (numbers : List ℕ) (low high place : ℕ)
    → RiseSlowly numbers → high < length numbers
    → ((between : ℕ) → low < between → between < high → is_flat_end numbers between ≡ false)
    → low ≤ place → place ≤ high
    → slice_index numbers place
    ≡ min (slice_index numbers high) (slice_index numbers low + (place - low))
