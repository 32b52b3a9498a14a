-- The command line: which words write which command, and what a command reads and writes.
use Rattle.std.specs.Prelude.{◌≡◌, ℕ, ◌≤◌, ◌<◌, ⊤, Bool, true, false, ◌&&◌, ◌==◌, not, List, [], ◌∷◌, length, codes, nat_le, nat_lt, if◌then◌else◌, Option, Some, None, option_map}
use Rattle.std.specs.Char.{is_ascii_digit}
use Rattle.std.specs.List.{list_all}
use Rattle.std.specs.Option.{option_map_or}
use Rattle.std.specs.Str.{bytes_eq}
use Rattle.std.specs.Str.Parse.{digits_value}
use Rattle.slot_core.specs.declared.TheConstants.{ARRIVAL_LIMIT, CHART_LIMIT, LOAD_LIMIT, REPLAY_LIMIT}
use Rattle.command_line.specs.Refusals.{word_at}
use Rattle.command_line.specs.declared.file.File.{File}
use Rattle.command_line.specs.declared.file.File.TheVariants.{Tasks as TaskFile, Table as TableFile, Second as SecondFile, Arrivals as ArrivalsFile, Trace as TraceFile}
use Rattle.command_line.specs.declared.TheConstants.{LOAD_SLOTS, WORD_DIGIT_LIMIT}
use Rattle.command_line.specs.declared.commands.Arrivals.{Arrivals}
use Rattle.command_line.specs.declared.commands.Arrivals.TheVariants.{Absent, Recorded, Generated}
use Rattle.command_line.specs.declared.commands.Command.{Command}
use Rattle.command_line.specs.declared.commands.Output.{Output}
use Rattle.command_line.specs.declared.commands.Output.TheVariants.{OfPlan, OfRun, Change}
use Rattle.command_line.specs.declared.commands.PlanOutput.{PlanOutput}
use Rattle.command_line.specs.declared.commands.PlanOutput.TheVariants.{Counts, Table, Listing, Margins, Lines}
use Rattle.command_line.specs.declared.commands.RunOutput.{RunOutput}
use Rattle.command_line.specs.declared.commands.RunOutput.TheVariants.{Trace, Chart, Tally, Explanation}
use Rattle.command_line.specs.declared.commands.Check.{Check}
use Rattle.command_line.specs.declared.commands.Check.TheVariants.{Unchecked, Verified, HasRow, AtCycleEnd}
use Rattle.command_line.specs.declared.commands.Second.{Second}
use Rattle.command_line.specs.declared.commands.Second.TheVariants.{Unread, Read}
use Rattle.command_line.specs.declared.commands.Source.{Source}
use Rattle.command_line.specs.declared.commands.Source.TheVariants.{Tasks, Spelled, Load}

-- one decimal digit up to the limit of digits, of which the first is not 0
abbrev pub is_positive_number : List ℕ → Bool
is_positive_number [] = false
is_positive_number (first ∷ rest) =
    nat_lt (length rest) WORD_DIGIT_LIMIT
    && not (first == 48)
    && list_all is_ascii_digit (first ∷ rest)

-- the number that a word writes, from 1 to the limit
abbrev pub number_up_to : ℕ → List ℕ → Option ℕ
number_up_to limit word =
    if is_positive_number word && nat_le (digits_value 10 word) limit
    then Some (digits_value 10 word)
    else None

-- a command that writes this of a plan, and reads nothing else
abbrev pub of_plan : Source → PlanOutput → Command
of_plan source output = record {
  source = source;
  second = Unread;
  arrivals = Absent;
  check = Unchecked;
  output = OfPlan output;
}

-- one that runs so many slots with recorded arrivals, where the number is one
abbrev pub over_slots : Source → RunOutput → Option ℕ → Option Command
over_slots source output number =
    option_map
    (λ slots. record {
      source = source;
      second = Unread;
      arrivals = Recorded slots;
      check = Unchecked;
      output = OfRun output;
    })
    number

-- one that verifies a recorded trace of so many slots, where the number is one
abbrev pub of_trace : Option ℕ → Option Command
of_trace number =
    option_map
    (λ slots. record {
      source = Tasks;
      second = Unread;
      arrivals = Recorded slots;
      check = Verified;
      output = OfPlan Lines;
    })
    number

-- one that explains a row of the arrivals of so many slots, where both numbers are ones
abbrev pub of_row : Option ℕ → Option ℕ → Option Command
of_row number row =
    option_map_or
    (λ slots.
    option_map
    (λ r. record {
      source = Tasks;
      second = Unread;
      arrivals = Recorded slots;
      check = HasRow r;
      output = OfRun (Explanation r);
    })
    row)
    number
    None

-- one that changes to the second plan after so many slots and runs on up to a time, where both are
-- numbers and the time is later
abbrev pub of_change : Option ℕ → Option ℕ → Option Command
of_change number slots =
    option_map_or
    (λ until.
    option_map_or
    (λ c.
    if nat_lt c until then Some (record {
      source = Tasks;
      second = Read;
      arrivals = Recorded c;
      check = AtCycleEnd;
      output = Change until;
    })
    else None)
    slots
    None)
    number
    None

-- one that runs the load of this number, where it is one
abbrev pub of_load : Option ℕ → Option Command
of_load number =
    option_map
    (λ n. record {
      source = Load n;
      second = Unread;
      arrivals = Generated n;
      check = Unchecked;
      output = OfRun (Tally n);
    })
    number

-- `check T`, `table T`, `show B`, `migrate B`, `margin T` and `selfrun N`
abbrev pub command_of_two : List ℕ → List ℕ → Option Command
command_of_two word last =
    if bytes_eq word (codes "check") then Some (of_plan Tasks Counts)
    else if bytes_eq word (codes "table") then Some (of_plan Tasks Table)
    else if bytes_eq word (codes "show") then Some (of_plan Spelled Listing)
    else if bytes_eq word (codes "migrate") then Some (of_plan Spelled Table)
    else if bytes_eq word (codes "margin") then Some (of_plan Tasks Margins)
    else if bytes_eq word (codes "selfrun") then of_load (number_up_to LOAD_LIMIT last)
    else None

-- `replay T A N`, `replay-table B A N` and `gantt T A N`
abbrev pub command_of_four : List ℕ → List ℕ → Option Command
command_of_four word last =
    if bytes_eq word (codes "replay") then over_slots Tasks Trace (number_up_to REPLAY_LIMIT last)
    else if bytes_eq word (codes "replay-table") then
    over_slots Spelled Trace (number_up_to REPLAY_LIMIT last)
    else if bytes_eq word (codes "gantt") then
    over_slots Tasks Chart (number_up_to CHART_LIMIT last)
    else None

-- `verify T A X N` and `explain T A N R`
abbrev pub command_of_five : List ℕ → List ℕ → List ℕ → Option Command
command_of_five word fourth last =
    if bytes_eq word (codes "verify") then of_trace (number_up_to REPLAY_LIMIT last)
    else if bytes_eq word (codes "explain") then
    of_row (number_up_to REPLAY_LIMIT fourth) (number_up_to ARRIVAL_LIMIT last)
    else None

-- `switch T U A N C`
abbrev pub command_of_six : List ℕ → List ℕ → List ℕ → Option Command
command_of_six word fifth last =
    if bytes_eq word (codes "switch") then
    of_change (number_up_to REPLAY_LIMIT fifth) (number_up_to REPLAY_LIMIT last)
    else None

-- the command that the words write, or none
abbrev pub command_of : List (List ℕ) → Option Command
command_of words =
    if length words == 2 then command_of_two (word_at words 0) (word_at words 1)
    else if length words == 4 then command_of_four (word_at words 0) (word_at words 3)
    else if length words == 5 then
    command_of_five (word_at words 0) (word_at words 3) (word_at words 4)
    else if length words == 6 then
    command_of_six (word_at words 0) (word_at words 4) (word_at words 5)
    else None

-- how many slots are run with these arrivals
abbrev pub slots_in : Arrivals → ℕ
slots_in Absent = 0
slots_in (Recorded slots) = slots
slots_in (Generated n) = LOAD_SLOTS

-- how many slots a command runs
abbrev pub slots_of : Command → ℕ
slots_of command = slots_in command.arrivals

-- the number of a load is from 1 to its limit
abbrev pub IsLoadNumber : Source → Type 0
IsLoadNumber (Load n) = (1 ≤ n) × (n ≤ LOAD_LIMIT)
IsLoadNumber _ = ⊤

-- recorded arrivals are for 1 slot to the most that may be replayed, and those of a load have its
-- number
abbrev pub AreInRange : Arrivals → Type 0
AreInRange Absent = ⊤
AreInRange (Recorded slots) = (1 ≤ slots) × (slots ≤ REPLAY_LIMIT)
AreInRange (Generated n) = (1 ≤ n) × (n ≤ LOAD_LIMIT)

-- a recorded trace is of 1 slot to the most that may be replayed, and rows count from 1
abbrev pub IsCheckInRange : ℕ → Check → Type 0
IsCheckInRange slots Verified = (1 ≤ slots) × (slots ≤ REPLAY_LIMIT)
IsCheckInRange slots (HasRow row) = 1 ≤ row
IsCheckInRange slots _ = ⊤

-- the lines are counted of a trace of 1 slot to the most that may be replayed
abbrev pub IsPlanOutputInRange : ℕ → PlanOutput → Type 0
IsPlanOutputInRange slots Lines = (1 ≤ slots) × (slots ≤ REPLAY_LIMIT)
IsPlanOutputInRange slots _ = ⊤

-- so many slots of a run may be written so
abbrev pub IsRunOutputInRange : ℕ → RunOutput → Type 0
IsRunOutputInRange slots Trace = (1 ≤ slots) × (slots ≤ REPLAY_LIMIT)
IsRunOutputInRange slots Chart = (1 ≤ slots) × (slots ≤ CHART_LIMIT)
IsRunOutputInRange slots (Tally n) = (1 ≤ slots) × (slots ≤ REPLAY_LIMIT)
IsRunOutputInRange slots (Explanation row) = (1 ≤ slots) × (slots ≤ REPLAY_LIMIT) × (1 ≤ row)

-- so many slots may be written so
abbrev pub IsOutputInRange : ℕ → Output → Type 0
IsOutputInRange slots (OfPlan output) = IsPlanOutputInRange slots output
IsOutputInRange slots (OfRun output) = IsRunOutputInRange slots output
IsOutputInRange slots (Change n) = (1 ≤ slots) × (slots < n) × (n ≤ REPLAY_LIMIT)

-- the numbers of the command are in their ranges
pub record IsInRange (command : Command) : Type 0 where
  pub source : IsLoadNumber command.source
  pub arrivals : AreInRange command.arrivals
  -- the arrivals of a load are those of the load of the plan
  pub load : (n : ℕ) → command.arrivals ≡ Generated n → command.source ≡ Load n
  pub check : IsCheckInRange (slots_of command) command.check
  pub output : IsOutputInRange (slots_of command) command.output
  -- a row that is explained is one that is asked for
  pub explained : (row : ℕ) → command.output ≡ OfRun (Explanation row) → command.check ≡ HasRow row
  -- a plan is changed at a cycle's end, to a second plan
  pub changed :
      (n : ℕ) → command.output ≡ Change n
      → (command.check ≡ AtCycleEnd) × (command.second ≡ Read)

-- the file is the one that a plan from there is read from
abbrev pub is_file_of : Source → File → Bool
is_file_of Tasks TaskFile = true
is_file_of Spelled TableFile = true
is_file_of _ _ = false

-- the file is the second task file, where there is a second plan
abbrev pub is_second_of : Second → File → Bool
is_second_of Read SecondFile = true
is_second_of _ _ = false

-- the file is the arrivals file, where arrivals were recorded
abbrev pub is_recorded_in : Arrivals → File → Bool
is_recorded_in (Recorded slots) ArrivalsFile = true
is_recorded_in _ _ = false

-- the file is the trace file, where a recorded trace is verified
abbrev pub is_verified_in : Check → File → Bool
is_verified_in Verified TraceFile = true
is_verified_in _ _ = false

-- the command reads the file
abbrev pub reads : Command → File → Bool
reads command TaskFile = is_file_of command.source TaskFile
reads command TableFile = is_file_of command.source TableFile
reads command SecondFile = is_second_of command.second SecondFile
reads command ArrivalsFile = is_recorded_in command.arrivals ArrivalsFile
reads command TraceFile = is_verified_in command.check TraceFile

-- the text of the output is put in parts: what comes first may stand where the rest is refused, or
-- memory runs out before it
abbrev pub tells_in_parts : RunOutput → Bool
tells_in_parts (Explanation row) = true
tells_in_parts _ = false

abbrev pub writes_in_parts : Output → Bool
writes_in_parts (OfPlan output) = false
writes_in_parts (OfRun output) = tells_in_parts output
writes_in_parts (Change n) = true
