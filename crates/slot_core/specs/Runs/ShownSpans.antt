-- What an entry shows of the spans after it.
use Rattle.std.specs.Prelude.{ℕ, List, drop}
use Rattle.slot_core.specs.declared.jobs.Span.{Span}

-- the first spans, and the number of the others
pub record ShownSpans : Type 0 where
  pub spans : List Span
  pub more : ℕ

-- the same without the first span
abbrev pub others_of : ShownSpans → ShownSpans
others_of shown = record shown { spans = drop 1 shown.spans }
