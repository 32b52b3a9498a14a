-- Rounding to slots is exact: no smaller worst case, no earlier start, no later end will do.
use Rattle.std.specs.Prelude.{ℕ, ◌+◌, ◌*◌, ◌≤◌, ◌<◌, ◌↔◌}
use Rattle.clock_units.specs.Rounding.{down, up}

-- so many slots of this worth hold a worst case exactly where they are no fewer than it up
abbrev pub WorstCasesRoundUp : Type 0
WorstCasesRoundUp =
    (worth wcet n : ℕ) → 0 < worth → (wcet ≤ n * worth) ↔ (up worth wcet ≤ n)

-- a slot lies inside a physical window exactly where it lies between the start up and the end down
abbrev pub WindowsRoundInwards : Type 0
WindowsRoundInwards =
    (slot from to s : ℕ) → 0 < slot
    → ((from ≤ s * slot) × ((s + 1) * slot ≤ to))
    ↔ ((up slot from ≤ s) × (s < down slot to))

-- times that are a separation apart are handed over so many slots apart, whenever they come,
-- exactly where these are no more than it down
abbrev pub SeparationsRoundDown : Type 0
SeparationsRoundDown =
    (slot separation n : ℕ) → 0 < slot
    → ((a b : ℕ) → a + separation ≤ b → up slot a + n ≤ up slot b)
    ↔ (n ≤ down slot separation)
