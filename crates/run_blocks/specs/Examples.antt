-- Worked rows.
use Rattle.std.specs.Prelude.{◌≡◌, ℕ, ◌++◌, true, false, List, [], ◌∷◌, map, refl}
use Rattle.std.specs.List.{range_with_len}
use Rattle.trace_lines.specs.declared.line.KeyName.{KeyName}
use Rattle.trace_lines.specs.declared.line.KeyName.TheVariants.{Firm as FirmKey}
use Rattle.run_blocks.specs.declared.TheConstants.{ROW_LIMIT}
use Rattle.run_blocks.specs.Rows.{have_few_firms}

-- the rows that a task set may ask for
pub most_rows : ROW_LIMIT ≡ 1045
most_rows = refl

-- runs of so many firm jobs, a slot each
abbrev runs_of_firms : ℕ → List (ℕ × KeyName)
runs_of_firms count = map (λ (row : ℕ). (row, FirmKey row)) (range_with_len 0 count)

-- twelve have a row each
pub twelve : have_few_firms (runs_of_firms 12) ≡ true
twelve = refl

-- thirteen share one
pub thirteen : have_few_firms (runs_of_firms 13) ≡ false
thirteen = refl

-- twelve of which one runs again have a row each
pub one_again : have_few_firms (runs_of_firms 12 ++ (12, FirmKey 3) ∷ []) ≡ true
one_again = refl
