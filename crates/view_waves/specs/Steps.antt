-- What changes from one slot of a trace to the next.
use Rattle.std.specs.Prelude.{ℕ, ◌+◌, ◌==◌, List, [], ◌∷◌, ◌++◌, length, if◌then◌else◌, Option, Some, None, option_map}
use Rattle.std.specs.Int.{cast_unsigned, w64}
use Rattle.std.specs.Option.{option_map_or, unwrap_or}
use Rattle.trace_lines.specs.Capacities.{first_spare}
use Rattle.trace_lines.specs.declared.line.Words.{Words}
use Rattle.trace_lines.specs.declared.line.Words.TheVariants.{Run, Idle, End}
use Rattle.trace_lines.specs.declared.line.TraceLine.{TraceLine}
use Rattle.run_blocks.specs.Rows.{row_at}
use Rattle.run_blocks.specs.declared.rows.Row.{Row}
use Rattle.view_waves.specs.declared.steps.Step.{Step}
use Rattle.view_waves.specs.declared.steps.Wave.{Wave}

-- the wire that is on in the slot that the words tell: that of the row that holds the job, or the
-- one after all rows where the slot is idle
abbrev pub wire_on : List Row → Words → Option ℕ
wire_on rows (Run key) = Some (row_at rows key)
wire_on rows Idle = Some (length rows)
wire_on rows _ = None

-- the wire that is on in the first slot, or a number that no wire has
abbrev pub first_on : List Row → List TraceLine → ℕ
first_on rows [] = length rows + 1
first_on rows (line ∷ lines) = unwrap_or (wire_on rows line.words) (first_on rows lines)

-- the 64 bits of the capacity of the first span that a line shows
abbrev pub capacity_of : TraceLine → ℕ
capacity_of line = cast_unsigned w64 (first_spare line.spans)

-- of the first line
abbrev pub first_shown : List TraceLine → ℕ
first_shown [] = 0
first_shown (line ∷ lines) = capacity_of line

-- the values before the first slot: the first wire is on already
abbrev pub first_wave : List Row → List TraceLine → Wave
first_wave rows lines =
    record { on = first_on rows lines; shown = first_shown lines; next = first_shown lines }

-- the wire that is on after the words, where they tell a slot, or the end, which turns none
abbrev pub next_on : List Row → ℕ → Words → Option ℕ
next_on rows on End = Some on
next_on rows on words = wire_on rows words

-- from which wire to which it turns, if it does
abbrev pub turn_between : ℕ → ℕ → Option (ℕ × ℕ)
turn_between from to = if from == to then None else Some (from, to)

-- the capacity that is shown now, if it is another
abbrev pub change_between : ℕ → ℕ → Option ℕ
change_between shown next = if shown == next then None else Some next

-- what changes at a line after which this wire is on; the capacity is that after the slot before
abbrev pub step_at : Wave → TraceLine → ℕ → Step
step_at wave line on =
    record {
      time = line.time;
      turn = turn_between wave.on on;
      change = change_between wave.shown wave.next;
    }

-- the values after it
abbrev pub wave_at : Wave → TraceLine → ℕ → Wave
wave_at wave line on = record { on = on; shown = wave.next; next = capacity_of line }

-- what changes at a line: something in a slot and at the end, and nothing elsewhere
abbrev pub step_of : List Row → Wave → TraceLine → Option Step
step_of rows wave line = option_map (step_at wave line) (next_on rows wave.on line.words)

-- the values after a line
abbrev pub wave_after : List Row → Wave → TraceLine → Wave
wave_after rows wave line =
    option_map_or (wave_at wave line) (next_on rows wave.on line.words) wave

-- the step, if there is one
abbrev pub step_if_any : Option Step → List Step
step_if_any None = []
step_if_any (Some step) = step ∷ []

-- what changes over lines
abbrev pub steps_from : List Row → Wave → List TraceLine → List Step
steps_from rows wave [] = []
steps_from rows wave (line ∷ lines) =
    step_if_any (step_of rows wave line) ++ steps_from rows (wave_after rows wave line) lines

-- the values after lines
abbrev pub wave_along : List Row → Wave → List TraceLine → Wave
wave_along rows wave [] = wave
wave_along rows wave (line ∷ lines) = wave_along rows (wave_after rows wave line) lines
