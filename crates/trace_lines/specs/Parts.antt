-- Parts of a trace: what it tells of the slots from one on and before another.
use Rattle.std.specs.Prelude.{◌≡◌, ◌<◌, ◌≤◌, ℕ, Bool, ◌&&◌, List, [], ◌∷◌, ◌++◌, count_by, length, nat_le, nat_lt, if◌then◌else◌, Option, Some, None, max, not}
use Rattle.std.specs.List.{filter}
use Rattle.trace_lines.specs.declared.TheConstants.{LINE_LIMIT}
use Rattle.trace_lines.specs.declared.line.KeyName.{KeyName}
use Rattle.trace_lines.specs.declared.line.TraceLine.{TraceLine}
use Rattle.trace_lines.specs.declared.line.Words.TheVariants.{Start}
use Rattle.trace_lines.specs.declared.part.Slots.{Slots}
use Rattle.trace_lines.specs.declared.trace.Reached.{Reached}
use Rattle.trace_lines.specs.Readings.{end_line}
use Rattle.trace_lines.specs.Texts.{lines_text}
use Rattle.trace_lines.specs.Traces.{AreTrace, IsRead, runs_of, time_of_last}

-- a time is that of one of the slots
abbrev pub is_in : Slots → ℕ → Bool
is_in slots time = not (nat_lt time slots.from) && nat_lt time slots.until

-- a line tells of a time before the slots
abbrev pub is_before : Slots → TraceLine → Bool
is_before slots line = nat_lt line.time slots.from

-- a line tells of one of the slots
abbrev pub is_within : Slots → TraceLine → Bool
is_within slots line = is_in slots line.time

-- the lines that tell of the slots
abbrev pub lines_within : Slots → List TraceLine → List TraceLine
lines_within slots lines = filter (is_within slots) lines

-- the last of a list
abbrev pub last_of : {X : Type 0} → List X → Option X
last_of [] = None
last_of (x ∷ []) = Some x
last_of (x ∷ y ∷ xs) = last_of (y ∷ xs)

-- the last line before the slots
abbrev pub last_before : Slots → List TraceLine → Option TraceLine
last_before slots lines = last_of (filter (is_before slots) lines)

-- a start at this time, which shows the spans that a line shows
abbrev pub start_at : ℕ → TraceLine → TraceLine
start_at time line =
    record { time = time; words = Start; spans = line.spans; more = line.more }

-- a part begins with a start that shows what the last line before it shows, where there is one
abbrev pub opening : ℕ → Option TraceLine → List TraceLine
opening from None = []
opening from (Some line) = start_at from line ∷ []

-- and ends where the slots end, if the trace does not end before
abbrev pub closing : ℕ → ℕ → List TraceLine
closing until end = if nat_le until end then end_line until ∷ [] else []

-- the part of a trace that tells of the slots
abbrev pub part_of : Slots → List TraceLine → List TraceLine
part_of slots lines =
    opening slots.from (last_before slots lines)
    ++ (lines_within slots lines ++ closing slots.until (time_of_last lines))

-- the runs in the slots
abbrev pub runs_within : Slots → List (ℕ × KeyName) → List (ℕ × KeyName)
runs_within slots runs = filter (λ (run : ℕ × KeyName). is_in slots run.0) runs

-- a part of whatever lines runs what they run in its slots
abbrev pub PartsRunTheirSlots : Type 0
PartsRunTheirSlots =
    (slots : Slots) (lines : List TraceLine)
    → runs_of (part_of slots lines) ≡ runs_within slots (runs_of lines)

-- the number of its first line: of the start that opens it, that of the line that this shows
abbrev pub number_of_first : Slots → List TraceLine → ℕ
number_of_first slots lines = max 1 (count_by (is_before slots) lines)

-- the text is that of a trace
abbrev pub IsTraceText : List ℕ → List TraceLine → Type 0
IsTraceText text lines = AreTrace lines × (text ≡ lines_text lines)

-- the text begins as that of a trace, and of the slots so many lines tell that they are not kept
pub record IsLong (slots : Slots) (text : List ℕ) : Type 0 where
  pub front : List TraceLine
  pub rest : List ℕ
  pub reached : Reached
  pub read : IsRead text front reached rest
  pub many : LINE_LIMIT < length (lines_within slots front)

-- what is kept of the lines that are read
pub record IsKept
    (slots : Slots) (lines : List TraceLine)
    (before : ℕ) (last : Option TraceLine) (within : List TraceLine) (end count : ℕ)
    : Type 0 where
  pub before_all : before ≡ count_by (is_before slots) lines
  pub last_all : last ≡ last_before slots lines
  pub within_all : within ≡ lines_within slots lines
  pub end_all : end ≡ time_of_last lines
  pub count_all : count ≡ length lines
  pub few : length within ≤ LINE_LIMIT
