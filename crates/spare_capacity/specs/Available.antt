-- The capacity up to a deadline, as a sum over the spans (Fohler 1995; Isovic and Fohler 2000).
use Rattle.std.specs.Prelude.{ℕ, ◌-◌, ℤ, pos, ◌+ℤ◌, Bool, ◌&&◌, List, [], ◌∷◌, find, nat_le, nat_lt, if◌then◌else◌}
use Rattle.std.specs.Int.{int_max, int_min}
use Rattle.std.specs.Option.{option_map_or}
use Rattle.slot_core.specs.declared.jobs.Span.{Span}

-- what a span has to give: its capacity, and 0 where that is below 0
abbrev pub surplus : Span → ℤ
surplus s = int_max (pos 0) s.spare

-- the time is in the span
abbrev pub holds : ℕ → Span → Bool
holds time s = nat_le s.start time && nat_lt time s.end

-- the share of a span up to a deadline in it: what it has to give, but no more than the slots
-- before the deadline
abbrev pub share : ℕ → Span → ℤ
share deadline s = int_min (surplus s) (pos (deadline - s.start))

-- what the spans that end by the deadline have to give
abbrev pub surplus_by : ℕ → List Span → ℤ
surplus_by deadline [] = pos 0
surplus_by deadline (s ∷ ss) =
    (if nat_le s.end deadline then surplus s else pos 0) +ℤ surplus_by deadline ss

-- the share of the span that holds the deadline, 0 where none does
abbrev pub share_of_holder : ℕ → List Span → ℤ
share_of_holder deadline spans =
    option_map_or (share deadline) (find (holds deadline) spans) (pos 0)

-- the capacity up to a deadline: only the share of the current span, which is the first, where it
-- holds the deadline; else its capacity, what the later spans that end by the deadline have to
-- give, and the share of the span that holds the deadline
abbrev pub available : List Span → ℕ → ℤ
available [] deadline = pos 0
available (current ∷ later) deadline =
    if holds deadline current then share deadline current
    else (current.spare +ℤ surplus_by deadline later) +ℤ share_of_holder deadline later
