-- Which files a command reads, and the ranges of its numbers.
use Rattle.std.proofs.Common.{◌≡◌, ℕ, ◌≤◌, ◌<◌, Bool, true, false, ◌&&◌, nat_le, List, length, Option, None, Some, refl, ap, subst, arith}
use Rattle.std.specs.Prelude.{codes, nat_lt, if◌then◌else◌, ◌==◌}
use Rattle.std.specs.Str.{bytes_eq}
use Rattle.std.specs.Str.Parse.{digits_value}
use Rattle.std.proofs.lemmas.Bool.{and_parts}
use Rattle.std.proofs.lemmas.Bool.Decides.{nat_tests}
use Rattle.slot_core.specs.declared.TheConstants.{ARRIVAL_LIMIT, CHART_LIMIT, LOAD_LIMIT, REPLAY_LIMIT}
use Rattle.command_line.specs.declared.file.File.{File}
use Rattle.command_line.specs.declared.file.File.TheVariants.{Tasks as TaskFile, Table as TableFile, Second as SecondFile, Arrivals as ArrivalsFile, Trace as TraceFile}
use Rattle.command_line.specs.Refusals.{same_file, word_at}
use Rattle.command_line.specs.declared.commands.Arrivals.{Arrivals}
use Rattle.command_line.specs.declared.commands.Arrivals.TheVariants.{Absent, Recorded, Generated}
use Rattle.command_line.specs.declared.commands.Command.{Command}
use Rattle.command_line.specs.declared.commands.Output.TheVariants.{OfPlan, OfRun, Change}
use Rattle.command_line.specs.declared.commands.PlanOutput.{PlanOutput}
use Rattle.command_line.specs.declared.commands.PlanOutput.TheVariants.{Counts, Table, Listing, Margins, Lines}
use Rattle.command_line.specs.declared.commands.RunOutput.{RunOutput}
use Rattle.command_line.specs.declared.commands.RunOutput.TheVariants.{Trace, Chart, Tally, Explanation}
use Rattle.command_line.specs.declared.commands.Check.{Check}
use Rattle.command_line.specs.declared.commands.Check.TheVariants.{Unchecked, Verified, HasRow, AtCycleEnd}
use Rattle.command_line.specs.declared.commands.Second.{Second}
use Rattle.command_line.specs.declared.commands.Second.TheVariants.{Unread, Read}
use Rattle.command_line.specs.declared.commands.Source.{Source}
use Rattle.command_line.specs.declared.commands.Source.TheVariants.{Tasks, Spelled, Load}
use Rattle.command_line.specs.Commands.{is_positive_number, number_up_to, of_plan, over_slots, of_trace, of_row, of_change, of_load, command_of_two, command_of_four, command_of_five, command_of_six, command_of, IsLoadNumber, IsPlanOutputInRange, IsRunOutputInRange, IsInRange, is_file_of, is_second_of, is_recorded_in, is_verified_in, reads}
use Rattle.command_line.proofs.NumberLemmas.{some_number}

-- the file of a plan is that of its source
pub file-of_tasks : (file : File) → same_file TaskFile file ≡ true → is_file_of Tasks file ≡ true
file-of_tasks TaskFile is = refl
file-of_tasks TableFile is = cc
file-of_tasks SecondFile is = cc
file-of_tasks ArrivalsFile is = cc
file-of_tasks TraceFile is = cc

pub file-of_spelled : (file : File) → same_file TableFile file ≡ true → is_file_of Spelled file ≡ true
file-of_spelled TaskFile is = cc
file-of_spelled TableFile is = refl
file-of_spelled SecondFile is = cc
file-of_spelled ArrivalsFile is = cc
file-of_spelled TraceFile is = cc

pub file-recorded : (slots : ℕ) (file : File) → same_file ArrivalsFile file ≡ true → is_recorded_in (Recorded slots) file ≡ true
file-recorded slots TaskFile is = cc
file-recorded slots TableFile is = cc
file-recorded slots SecondFile is = cc
file-recorded slots ArrivalsFile is = refl
file-recorded slots TraceFile is = cc

pub file-verified : (file : File) → same_file TraceFile file ≡ true → is_verified_in Verified file ≡ true
file-verified TaskFile is = cc
file-verified TableFile is = cc
file-verified SecondFile is = cc
file-verified ArrivalsFile is = cc
file-verified TraceFile is = refl

pub file-second : (file : File) → same_file SecondFile file ≡ true → is_second_of Read file ≡ true
file-second TaskFile is = cc
file-second TableFile is = cc
file-second SecondFile is = refl
file-second ArrivalsFile is = cc
file-second TraceFile is = cc

-- no plan is read from a second task file, an arrivals file or a trace file
pub no-plan_of_second : (source : Source) → is_file_of source SecondFile ≡ true → ⊥
no-plan_of_second Tasks is = cc
no-plan_of_second Spelled is = cc
no-plan_of_second (Load n) is = cc

pub no-plan : (source : Source) → is_file_of source ArrivalsFile ≡ true → ⊥
no-plan Tasks is = cc
no-plan Spelled is = cc
no-plan (Load n) is = cc

pub no-plan_of_trace : (source : Source) → is_file_of source TraceFile ≡ true → ⊥
no-plan_of_trace Tasks is = cc
no-plan_of_trace Spelled is = cc
no-plan_of_trace (Load n) is = cc

-- the command reads them
pub reads-plan : (command : Command) (file : File) → is_file_of command.source file ≡ true → reads command file ≡ true
reads-plan command TaskFile is = is
reads-plan command TableFile is = is
reads-plan command SecondFile is = absurd (no-plan_of_second command.source is)
reads-plan command ArrivalsFile is = absurd (no-plan command.source is)
reads-plan command TraceFile is = absurd (no-plan_of_trace command.source is)

second-there : (command : Command) (second : Second) (file : File) → is_second_of second file ≡ true → (is_second_of second SecondFile ≡ true → reads command SecondFile ≡ true) → reads command file ≡ true
second-there command Unread file is there = cc
second-there command Read TaskFile is there = cc
second-there command Read TableFile is there = cc
second-there command Read SecondFile is there = there is
second-there command Read ArrivalsFile is there = cc
second-there command Read TraceFile is there = cc

pub reads-second : (command : Command) (file : File) → is_second_of command.second file ≡ true → reads command file ≡ true
reads-second command file is = second-there command command.second file is (λ there. there)

recorded-there : (command : Command) (arrivals : Arrivals) (file : File) → is_recorded_in arrivals file ≡ true → (is_recorded_in arrivals ArrivalsFile ≡ true → reads command ArrivalsFile ≡ true) → reads command file ≡ true
recorded-there command Absent file is there = cc
recorded-there command (Generated n) file is there = cc
recorded-there command (Recorded slots) TaskFile is there = cc
recorded-there command (Recorded slots) TableFile is there = cc
recorded-there command (Recorded slots) SecondFile is there = cc
recorded-there command (Recorded slots) ArrivalsFile is there = there is
recorded-there command (Recorded slots) TraceFile is there = cc

pub reads-recorded : (command : Command) (file : File) → is_recorded_in command.arrivals file ≡ true → reads command file ≡ true
reads-recorded command file is = recorded-there command command.arrivals file is (λ there. there)

verified-there : (command : Command) (check : Check) (file : File) → is_verified_in check file ≡ true → (is_verified_in check TraceFile ≡ true → reads command TraceFile ≡ true) → reads command file ≡ true
verified-there command Unchecked file is there = cc
verified-there command (HasRow row) file is there = cc
verified-there command AtCycleEnd file is there = cc
verified-there command Verified TaskFile is there = cc
verified-there command Verified TableFile is there = cc
verified-there command Verified SecondFile is there = cc
verified-there command Verified ArrivalsFile is there = cc
verified-there command Verified TraceFile is there = there is

pub reads-verified : (command : Command) (file : File) → is_verified_in command.check file ≡ true → reads command file ≡ true
reads-verified command file is = verified-there command command.check file is (λ there. there)

-- a number that is written is from 1 to its limit
number-tested : (limit : ℕ) (word : List ℕ) (b : Bool) (n : ℕ) → (is_positive_number word && nat_le (digits_value 10 word) limit) ≡ b → (let o : Option ℕ = if b then Some (digits_value 10 word) else None in o) ≡ Some n → (1 ≤ n) × (n ≤ limit)
number-tested limit word true n test is =
    let parts = and_parts (is_positive_number word) (nat_le (digits_value 10 word) limit) test in
    let same : digits_value 10 word ≡ n = cc in
    let some = some_number word parts.0 in
    let few : digits_value 10 word ≤ limit = grind (arith, nat_tests, parts.1) in
    subst (λ m. (1 ≤ m) × (m ≤ limit)) same (some, few)
number-tested limit word false n test is = cc

number-in_range : (limit : ℕ) (word : List ℕ) (n : ℕ) → number_up_to limit word ≡ Some n → (1 ≤ n) × (n ≤ limit)
number-in_range limit word n is = number-tested limit word (is_positive_number word && nat_le (digits_value 10 word) limit) n refl is

-- a plan of a file has no number
plan-in_range : (source : Source) (output : PlanOutput) → IsLoadNumber source → IsPlanOutputInRange 0 output → IsInRange (of_plan source output)
plan-in_range source output number written = record {
  source = number;
  arrivals = tt;
  load = λ n is. cc;
  check = tt;
  output = written;
  explained = λ row is. cc;
  changed = λ n is. cc;
}

given : (made command : Command) → (let o : Option Command = Some made in o) ≡ Some command → IsInRange made → IsInRange command
given made command is within = let same : made ≡ command = cc in subst IsInRange same within

run-same : (a b : RunOutput) → OfRun a ≡ OfRun b → a ≡ b
run-same a b is = cc

-- slots that are run are in the range of their output
slots-in_range : (source : Source) (output : RunOutput) (limit : ℕ) (o : Option ℕ) (command : Command) → IsLoadNumber source → limit ≤ REPLAY_LIMIT → ((slots : ℕ) → 1 ≤ slots → slots ≤ limit → IsRunOutputInRange slots output) → ((row : ℕ) → output ≡ Explanation row → ⊥) → ((n : ℕ) → o ≡ Some n → (1 ≤ n) × (n ≤ limit)) → over_slots source output o ≡ Some command → IsInRange command
slots-in_range source output limit None command number low written apart within is = cc
slots-in_range source output limit (Some slots) command number low written apart within is =
    let (some, few) = within slots refl in
    given (record { source = source; second = Unread; arrivals = Recorded slots; check = Unchecked; output = OfRun output }) command is (record {
      source = number;
      arrivals = (some, omega (arith, few, low));
      load = λ n same. cc;
      check = tt;
      output = written slots some few;
      explained = λ row same. absurd (apart row (run-same output (Explanation row) same));
      changed = λ n same. cc;
    })

-- so are those of a trace that is verified
trace-in_range : (o : Option ℕ) (command : Command) → ((n : ℕ) → o ≡ Some n → (1 ≤ n) × (n ≤ REPLAY_LIMIT)) → of_trace o ≡ Some command → IsInRange command
trace-in_range None command within is = cc
trace-in_range (Some slots) command within is =
    given (record { source = Tasks; second = Unread; arrivals = Recorded slots; check = Verified; output = OfPlan Lines }) command is (record {
      source = tt;
      arrivals = within slots refl;
      load = λ n same. cc;
      check = within slots refl;
      output = within slots refl;
      explained = λ row same. cc;
      changed = λ n same. cc;
    })

-- so is the number of a load
load-in_range : (o : Option ℕ) (command : Command) → ((n : ℕ) → o ≡ Some n → (1 ≤ n) × (n ≤ LOAD_LIMIT)) → of_load o ≡ Some command → IsInRange command
load-in_range None command within is = cc
load-in_range (Some n) command within is =
    given (record { source = Load n; second = Unread; arrivals = Generated n; check = Unchecked; output = OfRun (Tally n) }) command is (record {
      source = within n refl;
      arrivals = within n refl;
      load = λ m same. let is_it : n ≡ m = cc in ap (λ k. let s : Source = Load k in s) is_it;
      check = tt;
      output = (omega arith, omega arith);
      explained = λ row same. cc;
      changed = λ n same. cc;
    })

-- so are those of a row that is explained
row-in_range : (o r : Option ℕ) (command : Command) → ((n : ℕ) → o ≡ Some n → (1 ≤ n) × (n ≤ REPLAY_LIMIT)) → ((n : ℕ) → r ≡ Some n → 1 ≤ n) → of_row o r ≡ Some command → IsInRange command
row-in_range None r command within from is = cc
row-in_range (Some slots) None command within from is = cc
row-in_range (Some slots) (Some row) command within from is =
    let (some, few) = within slots refl in
    given (record { source = Tasks; second = Unread; arrivals = Recorded slots; check = HasRow row; output = OfRun (Explanation row) }) command is (record {
      source = tt;
      arrivals = (some, few);
      load = λ n same. cc;
      check = from row refl;
      output = (some, few, from row refl);
      explained = λ other same. let is_it : row ≡ other = cc in ap (λ k. let c : Check = HasRow k in c) is_it;
      changed = λ n same. cc;
    })

-- so are those of a change of plan
change-tested : (until c : ℕ) (b : Bool) (command : Command) → nat_lt c until ≡ b → (1 ≤ until) × (until ≤ REPLAY_LIMIT) → (1 ≤ c) × (c ≤ REPLAY_LIMIT) → (let o : Option Command = if b then Some (record { source = Tasks; second = Read; arrivals = Recorded c; check = AtCycleEnd; output = Change until }) else None in o) ≡ Some command → IsInRange command
change-tested until c true command test late early is =
    let before : c < until = grind (arith, nat_tests, test) in
    given (record { source = Tasks; second = Read; arrivals = Recorded c; check = AtCycleEnd; output = Change until }) command is (record {
      source = tt;
      arrivals = early;
      load = λ n same. cc;
      check = tt;
      output = (early.0, before, late.1);
      explained = λ row same. cc;
      changed = λ n same. (refl, refl);
    })
change-tested until c false command test late early is = cc

change-in_range : (o r : Option ℕ) (command : Command) → ((n : ℕ) → o ≡ Some n → (1 ≤ n) × (n ≤ REPLAY_LIMIT)) → ((n : ℕ) → r ≡ Some n → (1 ≤ n) × (n ≤ REPLAY_LIMIT)) → of_change o r ≡ Some command → IsInRange command
change-in_range None r command within from is = cc
change-in_range (Some until) None command within from is = cc
change-in_range (Some until) (Some c) command within from is = change-tested until c (nat_lt c until) command refl (within until refl) (from c refl) is

replay-in_range : (source : Source) (last : List ℕ) (command : Command) → IsLoadNumber source → over_slots source Trace (number_up_to REPLAY_LIMIT last) ≡ Some command → IsInRange command
replay-in_range source last command number is =
    slots-in_range source Trace REPLAY_LIMIT (number_up_to REPLAY_LIMIT last) command number (omega arith) (λ slots some few. (some, few)) (λ row is. cc) (number-in_range REPLAY_LIMIT last) is

two-in_range : (a b d m g e : Bool) (last : List ℕ) (command : Command) → (if a then Some (of_plan Tasks Counts) else if b then Some (of_plan Tasks Table) else if d then Some (of_plan Spelled Listing) else if m then Some (of_plan Spelled Table) else if g then Some (of_plan Tasks Margins) else if e then of_load (number_up_to LOAD_LIMIT last) else None) ≡ Some command → IsInRange command
two-in_range true b d m g e last command is = given (of_plan Tasks Counts) command is (plan-in_range Tasks Counts tt tt)
two-in_range false true d m g e last command is = given (of_plan Tasks Table) command is (plan-in_range Tasks Table tt tt)
two-in_range false false true m g e last command is = given (of_plan Spelled Listing) command is (plan-in_range Spelled Listing tt tt)
two-in_range false false false true g e last command is = given (of_plan Spelled Table) command is (plan-in_range Spelled Table tt tt)
two-in_range false false false false true e last command is = given (of_plan Tasks Margins) command is (plan-in_range Tasks Margins tt tt)
two-in_range false false false false false true last command is = load-in_range (number_up_to LOAD_LIMIT last) command (number-in_range LOAD_LIMIT last) is
two-in_range false false false false false false last command is = cc

four-in_range : (a b d : Bool) (last : List ℕ) (command : Command) → (if a then over_slots Tasks Trace (number_up_to REPLAY_LIMIT last) else if b then over_slots Spelled Trace (number_up_to REPLAY_LIMIT last) else if d then over_slots Tasks Chart (number_up_to CHART_LIMIT last) else None) ≡ Some command → IsInRange command
four-in_range true b d last command is = replay-in_range Tasks last command tt is
four-in_range false true d last command is = replay-in_range Spelled last command tt is
four-in_range false false true last command is = slots-in_range Tasks Chart CHART_LIMIT (number_up_to CHART_LIMIT last) command tt (omega arith) (λ slots some few. (some, few)) (λ row is. cc) (number-in_range CHART_LIMIT last) is
four-in_range false false false last command is = cc

five-in_range : (a b : Bool) (fourth last : List ℕ) (command : Command) → (if a then of_trace (number_up_to REPLAY_LIMIT last) else if b then of_row (number_up_to REPLAY_LIMIT fourth) (number_up_to ARRIVAL_LIMIT last) else None) ≡ Some command → IsInRange command
five-in_range true b fourth last command is =
    trace-in_range (number_up_to REPLAY_LIMIT last) command (number-in_range REPLAY_LIMIT last) is
five-in_range false true fourth last command is =
    row-in_range (number_up_to REPLAY_LIMIT fourth) (number_up_to ARRIVAL_LIMIT last) command (number-in_range REPLAY_LIMIT fourth) (λ n same. (number-in_range ARRIVAL_LIMIT last n same).0) is
five-in_range false false fourth last command is = cc

six-in_range : (a : Bool) (fifth last : List ℕ) (command : Command) → (if a then of_change (number_up_to REPLAY_LIMIT fifth) (number_up_to REPLAY_LIMIT last) else None) ≡ Some command → IsInRange command
six-in_range true fifth last command is =
    change-in_range (number_up_to REPLAY_LIMIT fifth) (number_up_to REPLAY_LIMIT last) command (number-in_range REPLAY_LIMIT fifth) (number-in_range REPLAY_LIMIT last) is
six-in_range false fifth last command is = cc

-- so the number of a command is in its range
words-in_range : (two four five six : Bool) (words : List (List ℕ)) (command : Command) → (if two then command_of_two (word_at words 0) (word_at words 1) else if four then command_of_four (word_at words 0) (word_at words 3) else if five then command_of_five (word_at words 0) (word_at words 3) (word_at words 4) else if six then command_of_six (word_at words 0) (word_at words 4) (word_at words 5) else None) ≡ Some command → IsInRange command
words-in_range true four five six words command is =
    let w = word_at words 0 in
    two-in_range (bytes_eq w (codes "check")) (bytes_eq w (codes "table")) (bytes_eq w (codes "show")) (bytes_eq w (codes "migrate")) (bytes_eq w (codes "margin")) (bytes_eq w (codes "selfrun")) (word_at words 1) command is
words-in_range false true five six words command is =
    let w = word_at words 0 in
    four-in_range (bytes_eq w (codes "replay")) (bytes_eq w (codes "replay-table")) (bytes_eq w (codes "gantt")) (word_at words 3) command is
words-in_range false false true six words command is =
    let w = word_at words 0 in
    five-in_range (bytes_eq w (codes "verify")) (bytes_eq w (codes "explain")) (word_at words 3) (word_at words 4) command is
words-in_range false false false true words command is =
    six-in_range (bytes_eq (word_at words 0) (codes "switch")) (word_at words 4) (word_at words 5) command is
words-in_range false false false false words command is = cc

pub in_range-command : (words : List (List ℕ)) (command : Command) → command_of words ≡ Some command → IsInRange command
in_range-command words command is = words-in_range (length words == 2) (length words == 4) (length words == 5) (length words == 6) words command is
