-- The text of an arrivals file in slots, and of a trace in times.
use Rattle.std.specs.Prelude.{◌≡◌, ◌≢◌, ℕ, ◌+◌, ◌-◌, ◌==◌, List, [], ◌∷◌, ◌++◌, length, nat_lt, ⊤, if◌then◌else◌, Result, Ok, Err, MatchResult}
use Rattle.slot_core.specs.declared.TheConstants.{ARRIVAL_LIMIT, NUMBER_LIMIT}
use Rattle.slot_core.specs.Calls.Results.{◌>>=◌}
use Rattle.clock_units.specs.declared.sets.PhysicalSet.{PhysicalSet}
use Rattle.timed_arrivals.specs.declared.timed_fault.TimedFault.{TimedFault}
use Rattle.timed_arrivals.specs.declared.timed_fault.TimedFault.TheVariants.{Memory, TooMany}
use Rattle.timed_arrivals.specs.declared.state.SoFar.{SoFar}
use Rattle.timed_arrivals.specs.declared.form.Form.{Form}
use Rattle.timed_arrivals.specs.declared.form.Form.TheVariants.{Arrivals, Trace}
use Rattle.timed_arrivals.specs.Rows.{Timed, row_in_slots}
use Rattle.timed_arrivals.specs.Traces.{line_in_times}

-- the lines of bytes, where the first one has begun with these: a line feed (byte 10) ends one
abbrev pub lines_after : List ℕ → List ℕ → List (List ℕ)
lines_after line [] = line ∷ []
lines_after line (b ∷ bytes) =
    if b == 10 then line ∷ lines_after [] bytes else lines_after (line ++ b ∷ []) bytes

-- most lines of a form
abbrev pub limit_of : Form → ℕ
limit_of Arrivals = ARRIVAL_LIMIT
limit_of Trace = NUMBER_LIMIT - 1

-- what stands for the line of a number
abbrev pub line_of : Form → ℕ → ℕ → ℕ → List ℕ → Timed (List ℕ)
line_of Arrivals slot worth number line = row_in_slots slot worth number line
line_of Trace slot worth number line = line_in_times slot number line

-- the same, where there may be so many lines
abbrev pub timed_line : Form → ℕ → ℕ → ℕ → List ℕ → Timed (List ℕ)
timed_line form slot worth number line =
    if nat_lt (limit_of form) number then Err TooMany else line_of form slot worth number line

-- what stands for lines, from a number on: an empty line is none
abbrev pub lines_text : Form → ℕ → ℕ → ℕ → List (List ℕ) → Timed (List ℕ)
lines_text form slot worth number [] = Ok []
lines_text form slot worth number (line ∷ lines) =
    if length line == 0 then lines_text form slot worth number lines
    else timed_line form slot worth number line
    >>= (λ text. lines_text form slot worth (number + 1) lines
    >>= (λ more. Ok (text ++ more)))

-- the arrivals file in slots of bytes with times, or the trace in times of a trace
abbrev pub timed_text : Form → PhysicalSet → List ℕ → Timed (List ℕ)
timed_text form set bytes =
    lines_text form set.slot (set.slot - set.overhead) 1 (lines_after [] bytes)

-- a text, and what comes after it
abbrev pub after : List ℕ → Timed (List ℕ) → Timed (List ℕ)
after text rest = rest >>= (λ more. Ok (text ++ more))

-- what comes in the end, where these lines are left
abbrev pub due_of : SoFar → List (List ℕ) → Timed (List ℕ)
due_of so_far lines =
    after so_far.text.items
    (lines_text so_far.form so_far.slot so_far.worth so_far.row lines)

-- once the line at hand has ended, the same comes in the end
abbrev pub TakesLine : SoFar → SoFar → Result ⊤ TimedFault → Type 0
TakesLine old new taken = (lines : List (List ℕ)) → MatchResult taken
    (λ done. due_of new lines ≡ due_of old (old.line.items ∷ lines))
    (λ e. e ≢ Memory → due_of old (old.line.items ∷ lines) ≡ Err e)

-- once a byte is taken, the same comes in the end
abbrev pub TakesByte : SoFar → SoFar → ℕ → Result ⊤ TimedFault → Type 0
TakesByte old new byte taken = (bytes : List ℕ) → MatchResult taken
    (λ done. due_of new (lines_after new.line.items bytes)
    ≡ due_of old (lines_after old.line.items (byte ∷ bytes)))
    (λ e. e ≢ Memory → due_of old (lines_after old.line.items (byte ∷ bytes)) ≡ Err e)
