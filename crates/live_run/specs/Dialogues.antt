-- A dialogue: lines that are heard one after the other, and what answers each at the history so
-- far.
use Rattle.std.specs.Prelude.{◌≡◌, ⊤, ℕ, ◌+◌, Bool, true, false, List, [], ◌∷◌, ◌++◌, codes, flat_map, nat_le, nat_lt, if◌then◌else◌, Ok, Err}
use Rattle.std.specs.List.{list_any}
use Rattle.std.proofs.Math.ListN.{replicate}
use Rattle.slot_core.specs.Calls.Results.{◌>>=◌}
use Rattle.slot_core.specs.declared.TheConstants.{ARRIVAL_LIMIT, TIME_LIMIT}
use Rattle.slot_core.specs.declared.events.Arrival.{Arrival}
use Rattle.slot_core.specs.declared.events.What.TheVariants.{Start}
use Rattle.slot_core.specs.declared.tasks.TaskSet.{TaskSet}
use Rattle.slot_core.specs.Output.Texts.{entry_line, trace_text}
use Rattle.slot_core.specs.Runs.Histories.{History, last_row, time_of}
use Rattle.slot_core.specs.Runs.Traces.{Occurrence, arrive, slot, end_entry, entries, history_after, shown_entry, started}
use Rattle.live_lines.specs.Lines.{Heard, line, too_long, no_more}
use Rattle.live_lines.specs.declared.commands.LiveCommand.{LiveCommand}
use Rattle.live_lines.specs.declared.commands.LiveCommand.TheVariants.{Arrive, Pass, Ahead, Carried, End}
use Rattle.live_lines.specs.declared.line_fault.LineFault.TheVariants.{TooLong, NoMoreRows, NoMoreSlots}
use Rattle.live_lines.specs.Commands.{Asked, live_command_of}
use Rattle.live_lines.specs.FaultTexts.{fault_line}
use Rattle.live_lines.specs.Rows.{record_text}
use Rattle.live_run.specs.Carried.{carried_text}
use Rattle.live_run.specs.Looks.{TellsLook}

-- the command that is heard: that no line is left is the command `end`
abbrev pub command_heard : TaskSet → Heard → Asked
command_heard set (line bytes) = live_command_of set bytes
command_heard set too_long = Err TooLong
command_heard set no_more = Ok End

-- the command, where after a last row and at a time there are rows and slots for it
abbrev pub allowed : ℕ → ℕ → LiveCommand → Asked
allowed row time (Arrive event) =
    if nat_lt row ARRIVAL_LIMIT then Ok (Arrive event) else Err NoMoreRows
allowed row time (Pass slots) =
    if nat_le (time + slots) TIME_LIMIT then Ok (Pass slots) else Err NoMoreSlots
allowed row time (Ahead slots) = Ok (Ahead slots)
allowed row time (Carried keep) = Ok (Carried keep)
allowed row time End = Ok End

-- what is asked for after a history: the command, or why it is refused
abbrev pub asked : TaskSet → History → Heard → Asked
asked set h heard = do
  command ← command_heard set heard
  allowed (last_row h) (time_of h) command

-- what happens after a history where this is asked for: the arrival in the next row, or the slots;
-- nothing where it is asked what comes, or what a change of plan would carry over
abbrev pub happening : History → Asked → List Occurrence
happening h (Ok (Arrive event)) = arrive (last_row h + 1) event ∷ []
happening h (Ok (Pass slots)) = replicate slots slot
happening h (Ok (Ahead slots)) = []
happening h (Ok (Carried keep)) = []
happening h (Ok End) = []
happening h (Err fault) = []

-- the history after it
abbrev pub next_history : TaskSet → ℕ → History → Asked → History
next_history set cycle h a = history_after set cycle h (happening h a)

-- one of the things that are heard: its number, the history before it, and what it asks for
pub record Exchange : Type 0 where
  pub number : ℕ
  pub before : History
  pub asked : Asked

-- all that are heard, from this number and this history on
abbrev pub exchanges_from : TaskSet → ℕ → ℕ → History → List Heard → List Exchange
exchanges_from set cycle number h [] = []
exchanges_from set cycle number h (heard ∷ later) =
    let a = asked set h heard in
    record { number = number; before = h; asked = a }
    ∷ exchanges_from set cycle (number + 1) (next_history set cycle h a) later

-- and the history after them
abbrev pub history_heard : TaskSet → ℕ → History → List Heard → History
history_heard set cycle h [] = h
history_heard set cycle h (heard ∷ later) =
    history_heard set cycle (next_history set cycle h (asked set h heard)) later

-- what answers, but for a look ahead: the lines of the entries, those of what a change would carry
-- over, at the end that of the end, and the line `refused` where there is a fault
abbrev pub answer_text : TaskSet → ℕ → History → Asked → List ℕ
answer_text set cycle h (Ok End) = entry_line set (end_entry (time_of h))
answer_text set cycle h (Ok (Carried keep)) = carried_text set cycle keep h
answer_text set cycle h (Ok command) =
    trace_text set (entries set cycle h (happening h (Ok command)))
answer_text set cycle h (Err fault) = codes "refused" ++ 10 ∷ []

-- a text answers what is asked for: the line of a look, or else what is said above
abbrev pub IsAnswer : TaskSet → ℕ → History → Asked → List ℕ → Type 0
IsAnswer set cycle h (Ok (Ahead most)) text = TellsLook set cycle h most text
IsAnswer set cycle h a text = text ≡ answer_text set cycle h a

-- what is told on standard error: the fault of the line of this number
abbrev pub fault_text : ℕ → Asked → List ℕ
fault_text number (Ok command) = []
fault_text number (Err fault) = fault_line number fault

-- the arrival, if it is one
abbrev pub arrival_made : History → Asked → List Arrival
arrival_made h (Ok (Arrive event)) =
    record { row = last_row h + 1; slot = time_of h; event = event } ∷ []
arrival_made h (Ok command) = []
arrival_made h (Err fault) = []

-- the arrivals of exchanges, in order
abbrev pub arrivals_made : List Exchange → List Arrival
arrivals_made xs = flat_map (λ (x : Exchange). arrival_made x.before x.asked) xs

-- texts answer them, one for each
abbrev pub AreAnswers : TaskSet → ℕ → List Exchange → List (List ℕ) → Type 0
AreAnswers set cycle [] [] = ⊤
AreAnswers set cycle (x ∷ xs) (text ∷ texts) =
    IsAnswer set cycle x.before x.asked text × AreAnswers set cycle xs texts
AreAnswers set cycle xs texts = ⊥

-- the text of their faults
abbrev pub faults_text : List Exchange → List ℕ
faults_text xs = flat_map (λ (x : Exchange). fault_text x.number x.asked) xs

-- the rows of their arrivals
abbrev pub rows_text : TaskSet → List Exchange → List ℕ
rows_text set xs = record_text set (arrivals_made xs)

-- the first line
abbrev pub start_text : TaskSet → ℕ → List ℕ
start_text set cycle = entry_line set (shown_entry set cycle 0 Start started)

-- all exchanges of a dialogue: lines count from 1
abbrev pub exchanges : TaskSet → ℕ → List Heard → List Exchange
exchanges set cycle heards = exchanges_from set cycle 1 started heards

-- the end is asked for
abbrev pub is_end : Asked → Bool
is_end (Ok End) = true
is_end (Ok command) = false
is_end (Err fault) = false

abbrev pub asks_end : TaskSet → Heard → Bool
asks_end set heard = is_end (command_heard set heard)

-- the end is not asked for yet
abbrev pub GoesOn : TaskSet → List Heard → Type 0
GoesOn set heards = list_any (asks_end set) heards ≡ false

-- the end is asked for with the last that is heard, and not before
pub record IsOver (set : TaskSet) (heards : List Heard) : Type 0 where
  pub first : List Heard
  pub last : Heard
  pub all : heards ≡ first ++ last ∷ []
  pub goes_on : GoesOn set first
  pub ends : asks_end set last ≡ true
