-- The recurrence of slot shifting (Fohler 1995): what a span lacks it borrows from the span before
-- it.
use Rattle.std.specs.Prelude.{◌≡◌, ℕ, ◌-◌, ◌≤◌, ◌^◌, ℤ, pos, ◌+ℤ◌, ◌-ℤ◌, List, [], ◌∷◌, ⊤}
use Rattle.std.specs.Int.{int_min}
use Rattle.slot_core.specs.declared.jobs.Span.{Span}

-- the capacity of the first span, or 0 where there is none
abbrev pub first_spare : List Span → ℤ
first_spare [] = pos 0
first_spare (s ∷ ss) = s.spare

-- the slots of a span less its work, below 0 where it has more work than slots
abbrev pub room : Span → ℤ
room s = pos (s.end - s.start) -ℤ pos s.work

-- the span with its capacity: its room, less what the span after it borrows
abbrev pub with_spare : Span → ℤ → Span
with_spare s later = record s { spare = room s +ℤ int_min (pos 0) later }

-- the spans with their capacities by the recurrence
abbrev pub filled : List Span → List Span
filled [] = []
filled (s ∷ ss) = let rest = filled ss in with_spare s (first_spare rest) ∷ rest

-- consecutive spans from a time on, each with a length and a work of at most 2 ^ 40
abbrev pub FollowOn : ℕ → List Span → Type 0
FollowOn start [] = ⊤
FollowOn start (s ∷ ss) =
    (s.start ≡ start)
    × (s.start ≤ s.end)
    × (s.end - s.start ≤ 2 ^ 40)
    × (s.work ≤ 2 ^ 40)
    × FollowOn s.end ss

-- the start of the first span, or 0 where there is none
abbrev pub first_start : List Span → ℕ
first_start [] = 0
first_start (s ∷ ss) = s.start

-- the last end, or the start where there is no span
abbrev pub last_end : ℕ → List Span → ℕ
last_end start [] = start
last_end start (s ∷ ss) = last_end s.end ss

-- consecutive spans, from the start of the first
abbrev pub AreConsecutive : List Span → Type 0
AreConsecutive [] = ⊤
AreConsecutive (s ∷ ss) = FollowOn s.start (s ∷ ss)
