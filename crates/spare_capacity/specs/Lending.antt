-- How a change of a capacity goes back through the spans before it, by the recurrence of slot
-- shifting (Fohler 1995).
use Rattle.std.specs.Prelude.{ℤ, pos, ◌+ℤ◌, ◌-ℤ◌, List, [], ◌∷◌}
use Rattle.std.specs.Int.{int_min}
use Rattle.slot_core.specs.declared.jobs.Span.{Span}

-- what the span before is repaid where a capacity goes from old to new, below 0 where it lends more
abbrev pub repaid : ℤ → ℤ → ℤ
repaid old new = int_min (pos 0) new -ℤ int_min (pos 0) old

-- the span with so much more capacity
abbrev pub raised : ℤ → Span → Span
raised more s = record s { spare = s.spare +ℤ more }

-- what the span before the first is repaid where the last one is repaid so much
abbrev pub carry : ℤ → List Span → ℤ
carry more [] = more
carry more (s ∷ ss) = repaid s.spare (s.spare +ℤ carry more ss)

-- the spans where the last one is repaid so much: each has what those after it repay to it
abbrev pub moved : ℤ → List Span → List Span
moved more [] = []
moved more (s ∷ ss) = raised (carry more ss) s ∷ moved more ss
