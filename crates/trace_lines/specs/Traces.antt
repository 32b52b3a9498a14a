-- Lines that follow one another as those of a trace.
use Rattle.std.specs.Prelude.{◌≡◌, ◌≤◌, ◌≢◌, ℕ, ◌+◌, ◌-◌, true, ◌==◌, List, [], ◌∷◌, ◌++◌, length, flat_map, slice_get, if◌then◌else◌, Option, Some, None}
use Rattle.std.specs.Option.{option_map_or}
use Rattle.trace_lines.specs.declared.TheConstants.{READ_LINE_LIMIT}
use Rattle.trace_lines.specs.declared.line.KeyName.{KeyName}
use Rattle.trace_lines.specs.declared.line.Words.{Words}
use Rattle.trace_lines.specs.declared.line.Words.TheVariants.{Start, Run, Idle, End}
use Rattle.trace_lines.specs.declared.line.TraceLine.{TraceLine}
use Rattle.trace_lines.specs.declared.trace.Reached.{Reached}
use Rattle.trace_lines.specs.declared.trace.Reached.TheVariants.{Nothing, Slot as AtSlot, End as AtEnd}
use Rattle.key_texts.specs.Options.{◌>>=◌}
use Rattle.trace_lines.specs.Ranges.{line_fits}
use Rattle.trace_lines.specs.Readings.{short_line}
use Rattle.trace_lines.specs.Texts.{line_text, lines_text}

-- how far a trace has come after the words at this time: a slot passes where a job runs or none
abbrev pub reached_by : ℕ → Words → Option Reached
reached_by time Start = None
reached_by time (Run key) = Some (AtSlot (time + 1))
reached_by time Idle = Some (AtSlot (time + 1))
reached_by time End = Some AtEnd
reached_by time words = Some (AtSlot time)

-- the start is at time 0
abbrev pub reached_by_start : ℕ → Words → Option Reached
reached_by_start time Start = if time == 0 then Some (AtSlot 0) else None
reached_by_start time words = None

-- how far it has come after one more line, where that follows: the start first, the end last, and
-- each line between them at the time that is reached
abbrev pub reached_after : Reached → TraceLine → Option Reached
reached_after Nothing line = reached_by_start line.time line.words
reached_after (AtSlot time) line =
    if line.time == time then reached_by time line.words else None
reached_after AtEnd line = None

-- a line that a trace may have: its numbers and names fit, and it is short
abbrev pub MayStand : TraceLine → Type 0
MayStand line = (line_fits line ≡ true) × (length (line_text line) ≤ READ_LINE_LIMIT)

-- the lines lead from one point of a trace to another
abbrev pub Leads : Reached → List TraceLine → Reached → Type 0
Leads from [] to = from ≡ to
Leads from (line ∷ lines) to =
    MayStand line
    × ((next : Reached) × (reached_after from line ≡ Some next) × Leads next lines to)

-- the text is that of lines which follow one another up to this point, and of a rest
pub record IsRead
    (text : List ℕ) (lines : List TraceLine) (reached : Reached) (rest : List ℕ) : Type 0 where
  pub whole : text ≡ lines_text lines ++ rest
  pub leads : Leads Nothing lines reached

-- how far a trace has come after a line of these bytes, where that follows
abbrev pub follows : Reached → List ℕ → Option Reached
follows reached bytes = do
  line ← short_line bytes
  reached_after reached line

-- the lines of a whole trace
abbrev pub AreTrace : List TraceLine → Type 0
AreTrace lines = Leads Nothing lines AtEnd

-- the text is that of lines which follow one another, and then no line follows: the next bytes are
-- none that may stand there, or there are none before the end of the trace; n counts the lines to
-- the first faulty one
pub record Breaks (text : List ℕ) (n : ℕ) : Type 0 where
  pub front : List TraceLine
  pub rest : List ℕ
  pub reached : Reached
  pub count : n ≡ length front + 1
  pub read : IsRead text front reached rest
  pub nothing : (line : TraceLine) (next : Reached) (later : List ℕ)
      → MayStand line → reached_after reached line ≡ Some next
      → rest ≢ (line_text line ++ 10 ∷ []) ++ later
  pub unfinished : rest ≡ [] → reached ≢ AtEnd

-- the job that a line tells to run, with its time, or none
abbrev pub run_at : ℕ → Words → List (ℕ × KeyName)
run_at time (Run key) = (time, key) ∷ []
run_at time words = []

-- the runs of lines: at which time which job ran
abbrev pub runs_of : List TraceLine → List (ℕ × KeyName)
runs_of lines = flat_map (λ (l : TraceLine). run_at l.time l.words) lines

-- the time of the last line, or 0 where there is none: a whole trace has so many slots
abbrev pub time_of_last : List TraceLine → ℕ
time_of_last lines =
    option_map_or (λ (line : TraceLine). line.time) (slice_get lines (length lines - 1)) 0

-- the time of the first line, or 0 where there is none
abbrev pub time_of_first : List TraceLine → ℕ
time_of_first [] = 0
time_of_first (line ∷ lines) = line.time

-- so many slots lie between the times of the first line and of the last one
abbrev pub slots_of : List TraceLine → ℕ
slots_of lines = time_of_last lines - time_of_first lines
