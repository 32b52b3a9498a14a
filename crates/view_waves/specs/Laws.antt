-- What a viewer of the waves of a trace sees.
use Rattle.std.specs.Prelude.{◌≡◌, ◌⊎◌, ℕ, ◌+◌, ◌==◌, List, [], ◌∷◌, ◌++◌, length, map, slice_get, Some}
use Rattle.std.specs.List.{range_with_len}
use Rattle.trace_lines.specs.declared.line.TraceLine.{TraceLine}
use Rattle.trace_lines.specs.declared.line.KeyName.{KeyName}
use Rattle.trace_lines.specs.declared.line.Words.TheVariants.{Run, Idle}
use Rattle.trace_lines.specs.Traces.{AreTrace, runs_of}
use Rattle.run_blocks.specs.declared.rows.Row.{Row}
use Rattle.run_blocks.specs.Rows.{AreRowsOf, row_at, row_holds_at}
use Rattle.view_waves.specs.declared.steps.Step.{Step}
use Rattle.view_waves.specs.Levels.{AreTurns, is_on, on_at, shown_at, steps_of}
use Rattle.view_waves.specs.Steps.{capacity_of, first_on, first_shown}

-- the line at a place of a trace
pub record IsLineOf (lines : List TraceLine) (line : TraceLine) : Type 0 where
  pub trace : AreTrace lines
  pub place : ℕ
  pub there : slice_get lines place ≡ Some line

-- in the slot of a run that wire is on whose row is the first that holds the job
abbrev pub RunsAreOn : Type 0
RunsAreOn =
    (rows : List Row) (lines : List TraceLine) (line : TraceLine) (key : KeyName)
    → IsLineOf lines line → line.words ≡ Run key
    → on_at (first_on rows lines) (steps_of rows lines) line.time ≡ row_at rows key

-- in an idle slot the wire after those of the rows is on
abbrev pub IdleSlotsAreOn : Type 0
IdleSlotsAreOn =
    (rows : List Row) (lines : List TraceLine) (line : TraceLine)
    → IsLineOf lines line → line.words ≡ Idle
    → on_at (first_on rows lines) (steps_of rows lines) line.time ≡ length rows

-- where the rows are those of the trace, a wire is on in the slot of a run exactly if its row holds
-- the job
abbrev pub WiresAreOnWhereTheyRun : Type 0
WiresAreOnWhereTheyRun =
    (rows : List Row) (lines : List TraceLine) (line : TraceLine) (key : KeyName) (wire : ℕ)
    → AreRowsOf rows (runs_of lines) → IsLineOf lines line → line.words ≡ Run key
    → is_on rows lines wire line.time ≡ row_holds_at rows wire key

-- and in an idle slot exactly if it is the one after those of the rows
abbrev pub IdleSlotsHaveOneWire : Type 0
IdleSlotsHaveOneWire =
    (rows : List Row) (lines : List TraceLine) (line : TraceLine) (wire : ℕ)
    → IsLineOf lines line → line.words ≡ Idle
    → is_on rows lines wire line.time ≡ (wire == length rows)

-- a wire is on in a slot exactly if it is that to which the last turn turned
abbrev pub OneWireIsOn : Type 0
OneWireIsOn =
    (rows : List Row) (lines : List TraceLine) (wire slot : ℕ) → AreTrace lines
    → is_on rows lines wire slot
    ≡ (wire == on_at (first_on rows lines) (steps_of rows lines) slot)

-- each turn is from the wire that is on
abbrev pub TurnsFollow : Type 0
TurnsFollow =
    (rows : List Row) (lines : List TraceLine)
    → AreTurns (first_on rows lines) (steps_of rows lines)

-- there is a step for each slot, and then one for the end
abbrev pub StepsAreSlots : Type 0
StepsAreSlots =
    (rows : List Row) (lines : List TraceLine) (last : TraceLine) → AreTrace (lines ++ last ∷ [])
    → map (λ (step : Step). step.time) (steps_of rows (lines ++ last ∷ []))
    ≡ range_with_len 0 (last.time + 1)

-- in the slot after a slot, or at the end, that capacity is shown which the line of the slot tells
-- first
abbrev pub CapacitiesAreShown : Type 0
CapacitiesAreShown =
    (rows : List Row) (lines : List TraceLine) (line : TraceLine)
    → IsLineOf lines line → (line.words ≡ Idle) ⊎ ((key : KeyName) × (line.words ≡ Run key))
    → shown_at (first_shown lines) (steps_of rows lines) (line.time + 1) ≡ capacity_of line

-- in slot 0 it is that of the start
abbrev pub FirstCapacityIsShown : Type 0
FirstCapacityIsShown =
    (rows : List Row) (lines : List TraceLine) → AreTrace lines
    → shown_at (first_shown lines) (steps_of rows lines) 0 ≡ first_shown lines
