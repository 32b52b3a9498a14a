-- Spans in a plain list.
use Rattle.std.specs.Prelude.{◌≡◌, ℕ, zero, suc, ◌≤◌, ◌<◌, ◌^◌, List, [], ◌∷◌, length, nat_lt, if◌then◌else◌}
use Rattle.slot_core.specs.declared.jobs.Span.{Span}
use Rattle.spare_capacity.specs.Recurrence.{filled, first_start, FollowOn}
use Rattle.spare_capacity.specs.PlanSpans.{AreProper}

-- some spans, consecutive, proper, with their capacities by the recurrence, and at most 2 ^ 20
pub record AreFilled (spans : List Span) : Type 0 where
  pub some : 1 ≤ length spans
  pub consecutive : FollowOn (first_start spans) spans
  pub proper : AreProper spans
  pub filled : spans ≡ filled spans
  pub few : length spans ≤ 2 ^ 20

-- how many spans at the front have their end before x
abbrev pub place_of : ℕ → List Span → ℕ
place_of x [] = 0
place_of x (s ∷ ss) = if nat_lt s.end x then suc (place_of x ss) else 0

-- the span at this place starts before `at` and ends after it
abbrev pub HoldsInside : ℕ → ℕ → List Span → Type 0
HoldsInside at place [] = ⊥
HoldsInside at zero (s ∷ ss) = (s.start < at) × (at < s.end)
HoldsInside at (suc place) (s ∷ ss) = HoldsInside at place ss

-- the spans, where the one at this place has this work
abbrev pub with_work_at : ℕ → ℕ → List Span → List Span
with_work_at place work [] = []
with_work_at zero work (s ∷ ss) = record s { work = work } ∷ ss
with_work_at (suc place) work (s ∷ ss) = s ∷ with_work_at place work ss
