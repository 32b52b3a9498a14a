-- What one step of the recurrence does to rows whose later ones have their capacities.
use Rattle.std.specs.Prelude.{◌-◌, ◌≤◌, ◌^◌, pos, neg_ℤ, ◌≤ℤ◌, List, [], ◌∷◌}
use Rattle.slot_core.specs.declared.jobs.Span.{Span}
use Rattle.spare_capacity.specs.Recurrence.{first_spare, with_spare}

-- the rows, with the capacity of the first by that of the second
abbrev pub refilled : List Span → List Span
refilled [] = []
refilled (s ∷ ss) = with_spare s (first_spare ss) ∷ ss

-- a span whose length and work are at most 2 ^ 40
pub record IsShort (s : Span) : Type 0 where
  pub rising : s.start ≤ s.end
  pub length : s.end - s.start ≤ 2 ^ 40
  pub work : s.work ≤ 2 ^ 40

-- there is a first row, it is short, and those after it borrow no more than 2 ^ 60
abbrev pub CanRefill : List Span → Type 0
CanRefill [] = ⊥
CanRefill (s ∷ ss) = IsShort s × (neg_ℤ (pos (2 ^ 60)) ≤ℤ first_spare ss)
