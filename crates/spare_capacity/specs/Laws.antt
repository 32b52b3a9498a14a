-- What capacities by the recurrence are: the least room of a stretch, and in sum the least slack of
-- a deadline.
use Rattle.std.specs.Prelude.{◌≡◌, ℕ, ◌+◌, ◌-◌, ◌≤◌, ◌<◌, ℤ, pos, ◌+ℤ◌, ◌-ℤ◌, ◌≤ℤ◌, List, [], ◌∷◌, length, take, drop, sum_by, nat_le, if◌then◌else◌}
use Rattle.slot_core.specs.declared.jobs.Span.{Span}
use Rattle.spare_capacity.specs.Recurrence.{room, first_start, last_end}

-- the sum of the rooms of the spans
abbrev pub room_of_all : List Span → ℤ
room_of_all [] = pos 0
room_of_all (s ∷ ss) = room s +ℤ room_of_all ss

-- the sum of the rooms from one place to another, both counted
abbrev pub sum_of_rooms : List Span → ℕ → ℕ → ℤ
sum_of_rooms rows from last = room_of_all (take (last + 1 - from) (drop from rows))

-- the least of those sums from a place on: no sum is below it, and one is it
pub record IsLeastRoom (rows : List Span) (from : ℕ) (least : ℤ) : Type 0 where
  pub bound : (last : ℕ) → from ≤ last → last < length rows → least ≤ℤ sum_of_rooms rows from last
  pub reached :
      (last : ℕ) × (from ≤ last) × (last < length rows)
      × (least ≡ sum_of_rooms rows from last)

-- the works of the spans that end by x
abbrev pub work_until : List Span → ℕ → ℕ
work_until spans x = sum_by (λ (s : Span). if nat_le s.end x then s.work else 0) spans

-- the slots from the first start up to x, less the works of the spans that end by x
abbrev pub slack_until : List Span → ℕ → ℤ
slack_until spans x = pos (x - first_start spans) -ℤ pos (work_until spans x)

-- the least of those from a deadline to the last end: none is below it, and one is it
pub record IsLeastSlack (spans : List Span) (deadline : ℕ) (least : ℤ) : Type 0 where
  pub bound : (x : ℕ) → deadline ≤ x → x ≤ last_end 0 spans → least ≤ℤ slack_until spans x
  pub reached : (x : ℕ) × (deadline ≤ x) × (x ≤ last_end 0 spans) × (least ≡ slack_until spans x)
