-- The capacities that a line shows.
use Rattle.std.specs.Prelude.{ℤ, pos, List, [], ◌∷◌, fold}
use Rattle.std.specs.Int.{int_min}
use Rattle.trace_lines.specs.declared.line.ShownSpan.{ShownSpan}

-- the capacity of the first span, or 0 where there is none
abbrev pub first_spare : List ShownSpan → ℤ
first_spare [] = pos 0
first_spare (span ∷ spans) = span.spare

-- the least of a capacity and those of the spans
abbrev pub least_from : ℤ → List ShownSpan → ℤ
least_from least spans = fold (λ best (span : ShownSpan). int_min best span.spare) least spans

-- the least capacity of all, or 0 where there is none
abbrev pub least_spare : List ShownSpan → ℤ
least_spare spans = least_from (first_spare spans) spans
