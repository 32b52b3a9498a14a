-- The line of a recorded trace that was verified.
use Rattle.std.specs.Prelude.{ℕ, ◌+◌, List, [], ◌∷◌, ◌++◌, codes}
use Rattle.slot_core.specs.Output.Texts.{worded}

-- the line that tells how many lines the trace of so many slots and arrivals has
abbrev pub verified_line : ℕ → ℕ → List ℕ
verified_line slots arrivals = worded (codes "verified lines") (slots + arrivals + 2) ++ 10 ∷ []
