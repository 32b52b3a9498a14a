-- Worked waves: each holds by computing the definitions.
use Rattle.std.specs.Prelude.{◌≡◌, ℕ, true, false, ℤ, pos, List, [], ◌∷◌, map, refl}
use Rattle.std.specs.List.{range_with_len}
use Rattle.trace_lines.specs.declared.line.KeyName.TheVariants.{Sporadic as SporadicKey, Soft as SoftKey}
use Rattle.trace_lines.specs.declared.line.TraceLine.{TraceLine}
use Rattle.trace_lines.specs.declared.line.Words.{Words}
use Rattle.trace_lines.specs.declared.line.Words.TheVariants.{Start, Run, Idle, End}
use Rattle.run_blocks.specs.declared.rows.Row.{Row}
use Rattle.run_blocks.specs.declared.rows.Row.TheVariants.{Sporadic, Soft}
use Rattle.view_waves.specs.Levels.{is_on, shown_at, steps_of}
use Rattle.view_waves.specs.Steps.{first_shown}

-- a line that shows one span of this capacity
abbrev pub line : ℕ → Words → ℤ → TraceLine
line time words spare =
    record {
      time = time;
      words = words;
      spans = record { start = time; end = 8; spare = spare } ∷ [];
      more = 0;
    }

-- an alarm runs, then soft work, then none
abbrev pub lines : List TraceLine
lines =
    line 0 Start (pos 5)
    ∷ line 0 (Run (SporadicKey (97 ∷ []) 1)) (pos 5)
    ∷ line 1 (Run (SoftKey 2)) (pos 4)
    ∷ line 2 Idle (pos 3)
    ∷ line 3 End (pos 0)
    ∷ []

-- the rows of both
abbrev pub rows : List Row
rows = Sporadic (97 ∷ []) ∷ Soft ∷ []

-- the wire of the alarm, from slot 0 to the end
pub alarm_on : map (is_on rows lines 0) (range_with_len 0 4) ≡ true ∷ false ∷ false ∷ false ∷ []
alarm_on = refl

-- that of soft work
pub soft_on : map (is_on rows lines 1) (range_with_len 0 4) ≡ false ∷ true ∷ false ∷ false ∷ []
soft_on = refl

-- that of idle slots
pub idle_on : map (is_on rows lines 2) (range_with_len 0 4) ≡ false ∷ false ∷ true ∷ true ∷ []
idle_on = refl

-- the capacities: that after the slot before
pub shown :
    map (shown_at (first_shown lines) (steps_of rows lines)) (range_with_len 0 4)
    ≡ 5 ∷ 5 ∷ 4 ∷ 3 ∷ []
shown = refl
