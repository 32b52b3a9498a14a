-- The commands that the lines of a live run write.
use Rattle.std.specs.Prelude.{ℕ, Bool, true, List, [], ◌∷◌, codes, if◌then◌else◌, Option, Some, None, Result, Ok, Err, ok_or}
use Rattle.std.specs.Option.{option_map_or}
use Rattle.std.specs.Result.{result_map_both}
use Rattle.std.specs.Str.{bytes_eq, is_utf8}
use Rattle.slot_core.specs.Calls.Results.{◌>>=◌}
use Rattle.slot_core.specs.declared.TheConstants.{REPLAY_LIMIT}
use Rattle.slot_core.specs.declared.events.Event.{Event}
use Rattle.slot_core.specs.declared.tasks.TaskSet.{TaskSet}
use Rattle.slot_core.specs.Runs.Arrivals.{event_fits}
use Rattle.slot_core.specs.Sets.Ranges.{is_between}
use Rattle.key_texts.specs.KeyTexts.{cut_at}
use Rattle.key_texts.specs.Numbers.{number_between}
use Rattle.plan_change.specs.declared.keep.Keep.{Keep}
use Rattle.plan_change.specs.declared.keep.Keep.TheVariants.{Drop, Started, Graphs}
use Rattle.arrival_csv.specs.declared.kinds.Kind.{Kind}
use Rattle.arrival_csv.specs.Kinds.{kind_of}
use Rattle.arrival_csv.specs.Reading.{Read, event_of}
use Rattle.live_lines.specs.declared.commands.LiveCommand.{LiveCommand}
use Rattle.live_lines.specs.declared.commands.LiveCommand.TheVariants.{Arrive, Pass, Ahead, Carried, End}
use Rattle.live_lines.specs.declared.line_fault.LineFault.{LineFault}
use Rattle.live_lines.specs.declared.line_fault.LineFault.TheVariants.{NoCommand, BadNumber, NotUtf8}
use Rattle.live_lines.specs.FaultTexts.{line_fault}

-- a command, or the fault of the line
abbrev pub Asked : Type 0
Asked = Result LiveCommand LineFault

-- the command of one word
abbrev pub command_of_word : List ℕ → Asked
command_of_word word =
    if bytes_eq word (codes "slot") then Ok (Pass 1)
    else if bytes_eq word (codes "end") then Ok End
    else Err NoCommand

-- a number of slots: at least one, and at most those of a replay
abbrev pub slot_count : List ℕ → Result ℕ LineFault
slot_count number = ok_or (number_between 1 REPLAY_LIMIT number) (BadNumber 2)

-- so many slots pass
abbrev pub slots_command : List ℕ → Asked
slots_command number = do
  slots ← slot_count number
  Ok (Pass slots)

-- what comes next is told, at most so many slots ahead
abbrev pub ahead_command : List ℕ → Asked
ahead_command number = do
  slots ← slot_count number
  Ok (Ahead slots)

-- which offline jobs go on at a change of plan, by its word
abbrev pub keep_of : List ℕ → Option Keep
keep_of word =
    if bytes_eq word (codes "drop") then Some Drop
    else if bytes_eq word (codes "started") then Some Started
    else if bytes_eq word (codes "graphs") then Some Graphs
    else None

-- what a change of plan would carry over is told
abbrev pub carried_command : List ℕ → Asked
carried_command word = do
  keep ← ok_or (keep_of word) NoCommand
  Ok (Carried keep)

-- the fields of what stands after the first word: two where it has a space (byte 32), else one
abbrev pub fields_of : List ℕ → List (List ℕ)
fields_of rest = option_map_or (λ parts. parts.0 ∷ parts.1 ∷ []) (cut_at 32 rest) (rest ∷ [])

-- the event of this kind, its fields read as those of an arrivals file
abbrev pub event_of_fields : TaskSet → Kind → List ℕ → Read Event
event_of_fields set kind rest = event_of set 0 kind (fields_of rest)

-- the command of an arrival, by the word of its kind and what stands after it
abbrev pub arrival_command : TaskSet → List ℕ → List ℕ → Asked
arrival_command set word rest =
    option_map_or (λ kind. result_map_both Arrive line_fault (event_of_fields set kind rest))
    (kind_of word)
    (Err NoCommand)

-- the command of a word and of what stands after it
abbrev pub command_of_two : TaskSet → List ℕ → List ℕ → Asked
command_of_two set word rest =
    if bytes_eq word (codes "slots") then slots_command rest
    else if bytes_eq word (codes "ahead") then ahead_command rest
    else if bytes_eq word (codes "carried") then carried_command rest
    else arrival_command set word rest

-- the command of a line that is UTF-8
abbrev pub command_of_text : TaskSet → List ℕ → Asked
command_of_text set line =
    option_map_or (λ parts. command_of_two set parts.0 parts.1) (cut_at 32 line)
    (command_of_word line)

-- the command that a line without its line feed writes
abbrev pub live_command_of : TaskSet → List ℕ → Asked
live_command_of set line = if is_utf8 line then command_of_text set line else Err NotUtf8

-- what arrives may stand in an arrivals file of the set, and slots are no more than a replay has
abbrev pub fits_set : TaskSet → LiveCommand → Bool
fits_set set (Arrive event) = event_fits set event
fits_set set (Pass slots) = is_between 1 REPLAY_LIMIT slots
fits_set set (Ahead slots) = is_between 1 REPLAY_LIMIT slots
fits_set set (Carried keep) = true
fits_set set End = true
