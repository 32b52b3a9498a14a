-- What the files call for, where they tell what they hold.
use Rattle.std.specs.Prelude.{ℕ, ◌%◌, ◌==◌, List, [], length, nat_lt, if◌then◌else◌, Option, None, Some, Ok, Err, ⊤}
use Rattle.std.specs.Option.{option_map_or}
use Rattle.std.specs.Result.{result_map_both}
use Rattle.slot_core.specs.Calls.Results.{◌>>=◌}
use Rattle.slot_core.specs.declared.events.Arrival.{Arrival}
use Rattle.slot_core.specs.declared.tasks.TaskSet.{TaskSet}
use Rattle.slot_core.specs.Sets.Cycles.{cycle_of}
use Rattle.slot_core.specs.Feasibility.Feasible.{counterexample}
use Rattle.slot_core.specs.Keeping.Plans.{PlanParts, planned}
use Rattle.slot_io.specs.Files.{Held, first_bytes}
use Rattle.arrival_csv.specs.Reading.{reading_of_arrivals}
use Rattle.load_gen.specs.LoadArrivals.{load_arrivals}
use Rattle.load_gen.specs.Loads.{load_set}
use Rattle.table_codec.specs.Grammar.{reading_of_table}
use Rattle.task_toml.specs.Reading.{reading_of_tasks}
use Rattle.trace_verify.specs.Verdicts.{verdict}
use Rattle.faults.specs.VerifyTexts.{verify_fault_text}
use Rattle.command_line.specs.declared.file.File.{File}
use Rattle.command_line.specs.declared.file.File.TheVariants.{Tasks as TaskFile, Table as TableFile, Second as SecondFile, Arrivals as ArrivalsFile, Trace as TraceFile}
use Rattle.command_line.specs.declared.refusal.Refusal.{Refusal}
use Rattle.command_line.specs.declared.refusal.Refusal.TheVariants.{Unreadable, TooLarge, BadTasks, Infeasible, BadTable, BadArrivals, NotVerified, BadSecond, SecondInfeasible, NoRow, NotCycleEnd}
use Rattle.command_line.specs.Refusals.{Outcome, name_of, limit_of}
use Rattle.command_line.specs.declared.TheConstants.{LOAD_SLOTS}
use Rattle.command_line.specs.declared.commands.Arrivals.{Arrivals}
use Rattle.command_line.specs.declared.commands.Arrivals.TheVariants.{Absent, Recorded, Generated}
use Rattle.command_line.specs.declared.commands.Check.{Check}
use Rattle.command_line.specs.declared.commands.Check.TheVariants.{Unchecked, Verified, HasRow, AtCycleEnd}
use Rattle.command_line.specs.declared.commands.Second.{Second}
use Rattle.command_line.specs.declared.commands.Second.TheVariants.{Unread, Read}
use Rattle.command_line.specs.declared.commands.Source.{Source}
use Rattle.command_line.specs.declared.commands.Source.TheVariants.{Tasks, Spelled, Load}

-- the bytes of a file within its limit
abbrev pub limited_bytes : File → List ℕ → Outcome (List ℕ)
limited_bytes file bytes =
    if nat_lt (limit_of file) (length bytes) then Err (TooLarge file) else Ok bytes

-- the bytes of a file that the words name, where it can be read and is within its limit
abbrev pub bytes_of : Held → List (List ℕ) → File → Outcome (List ℕ)
bytes_of held words file =
    option_map_or (limited_bytes file) (first_bytes held (name_of words file) (limit_of file))
    (Err (Unreadable file))

-- the sound set that the bytes of the task file write
abbrev pub sound_set : List ℕ → Outcome TaskSet
sound_set bytes = result_map_both (λ set. set) BadTasks (reading_of_tasks bytes)

-- the plan of a set, where it passes the cycle test
abbrev pub feasible_plan : TaskSet → Outcome PlanParts
feasible_plan set =
    option_map_or
    (λ window. Err (Infeasible window))
    (counterexample set (cycle_of set))
    (Ok (planned set))

-- the plan of the task file: it is read, its bytes are read as a set, and the set is tested
abbrev pub planned_plan : List ℕ → Outcome PlanParts
planned_plan bytes = do
  set ← sound_set bytes
  feasible_plan set

-- the plan that the bytes of the table file spell
abbrev pub spelled_plan : List ℕ → Outcome PlanParts
spelled_plan bytes = result_map_both (λ plan. plan) BadTable (reading_of_table bytes)

-- the plan, from where it comes: the task file, the table file, or a load
abbrev pub plan_from : Held → List (List ℕ) → Source → Outcome PlanParts
plan_from held words Tasks = do
  bytes ← bytes_of held words TaskFile
  planned_plan bytes
plan_from held words Spelled = do
  bytes ← bytes_of held words TableFile
  spelled_plan bytes
plan_from held words (Load n) = Ok (planned (load_set n))

-- a refusal of the task file, as one of the second task file
abbrev pub of_second : Refusal → Refusal
of_second (BadTasks fault) = BadSecond fault
of_second (Infeasible window) = SecondInfeasible window
of_second refusal = refusal

-- the plan of the second task file
abbrev pub second_plan : List ℕ → Outcome (Option PlanParts)
second_plan bytes = result_map_both Some of_second (planned_plan bytes)

-- the second plan, if there is one
abbrev pub second_from : Held → List (List ℕ) → Second → Outcome (Option PlanParts)
second_from held words Unread = Ok None
second_from held words Read = do
  bytes ← bytes_of held words SecondFile
  second_plan bytes

-- the arrivals that the bytes of the arrivals file write, for so many slots of the set
abbrev pub fitting_arrivals : List ℕ → ℕ → TaskSet → Outcome (List Arrival)
fitting_arrivals bytes slots set =
    result_map_both (λ arrivals. arrivals) BadArrivals (reading_of_arrivals bytes slots set)

-- the recorded arrivals: the arrivals file is read, and its bytes are read as arrivals
abbrev pub recorded_arrivals : Held → List (List ℕ) → ℕ → TaskSet → Outcome (List Arrival)
recorded_arrivals held words slots set = do
  bytes ← bytes_of held words ArrivalsFile
  fitting_arrivals bytes slots set

-- the arrivals, from where they come: none, those recorded, or those of a load
abbrev pub arrivals_from : Held → List (List ℕ) → Arrivals → TaskSet → Outcome (List Arrival)
arrivals_from held words Absent set = Ok []
arrivals_from held words (Recorded slots) set = recorded_arrivals held words slots set
arrivals_from held words (Generated n) set = Ok (load_arrivals n LOAD_SLOTS)

-- the bytes are the text of a lawful trace, or are refused for their first fault
abbrev pub lawful_trace : List ℕ → ℕ → PlanParts → List Arrival → Outcome ⊤
lawful_trace bytes slots plan arrivals =
    result_map_both
    (λ lawful. lawful)
    (λ fault. NotVerified (verify_fault_text plan.tasks fault))
    (verdict plan.tasks plan.cycle arrivals slots bytes)

-- the recorded trace: the trace file is read, and its bytes are verified
abbrev pub recorded_trace : Held → List (List ℕ) → ℕ → PlanParts → List Arrival → Outcome ⊤
recorded_trace held words slots plan arrivals = do
  bytes ← bytes_of held words TraceFile
  lawful_trace bytes slots plan arrivals

-- the arrivals have this row
abbrev pub row_among : ℕ → List Arrival → Outcome ⊤
row_among row arrivals = if nat_lt (length arrivals) row then Err (NoRow row) else Ok tt

-- so many slots are whole cycles
abbrev pub whole_cycles : ℕ → ℕ → Outcome ⊤
whole_cycles cycle slots = if slots % cycle == 0 then Ok tt else Err (NotCycleEnd cycle)

-- what is asked of the arrivals of so many slots
abbrev pub check_from :
    Held → List (List ℕ) → Check → ℕ → PlanParts → List Arrival → Outcome ⊤
check_from held words Unchecked slots plan arrivals = Ok tt
check_from held words Verified slots plan arrivals = recorded_trace held words slots plan arrivals
check_from held words (HasRow row) slots plan arrivals = row_among row arrivals
check_from held words AtCycleEnd slots plan arrivals = whole_cycles plan.cycle slots
