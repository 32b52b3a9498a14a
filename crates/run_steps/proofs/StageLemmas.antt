-- At which stages of the work the steps refuse.
use Rattle.std.proofs.Common.{◌≡◌, ℕ, ◌≤◌, Bool, true, false, List, length, Option, None, Some, Result, Ok, Err, refl, arith}
use Rattle.std.specs.Prelude.{⊤, ◌%◌, ◌==◌, nat_lt, if◌then◌else◌}
use Rattle.std.specs.Option.{option_map_or}
use Rattle.std.specs.Result.{result_map_both}
use Rattle.slot_core.specs.Calls.Results.{◌>>=◌}
use Rattle.arrival_csv.specs.Reading.{reading_of_arrivals}
use Rattle.faults.specs.declared.arrival_fault.ArrivalFault.{ArrivalFault}
use Rattle.slot_core.specs.declared.events.Arrival.{Arrival}
use Rattle.slot_core.specs.declared.faults.TaskFault.{TaskFault}
use Rattle.slot_core.specs.declared.jobs.Window.{Window}
use Rattle.slot_core.specs.declared.tasks.TaskSet.{TaskSet}
use Rattle.slot_core.specs.Sets.Cycles.{cycle_of}
use Rattle.slot_core.specs.Feasibility.Feasible.{counterexample}
use Rattle.slot_core.specs.Keeping.Plans.{PlanParts, planned}
use Rattle.slot_io.specs.Files.{Held, first_bytes}
use Rattle.table_codec.specs.Grammar.{reading_of_table}
use Rattle.faults.specs.declared.table_fault.TableFault.{TableFault}
use Rattle.task_toml.specs.Reading.{reading_of_tasks}
use Rattle.trace_verify.specs.Verdicts.{verdict}
use Rattle.faults.specs.VerifyTexts.{verify_fault_text}
use Rattle.faults.specs.declared.verify_fault.VerifyFault.{VerifyFault}
use Rattle.command_line.specs.declared.file.File.{File}
use Rattle.command_line.specs.declared.file.File.TheVariants.{Tasks as TaskFile, Table as TableFile, Second as SecondFile, Arrivals as ArrivalsFile, Trace as TraceFile}
use Rattle.command_line.specs.declared.refusal.Refusal.{Refusal}
use Rattle.command_line.specs.declared.refusal.Refusal.TheVariants.{Unreadable, TooLarge, BadTasks, Infeasible, BadTable, BadArrivals, NotVerified, NoRow, NotCycleEnd}
use Rattle.command_line.specs.Refusals.{Outcome, name_of, limit_of, is_found}
use Rattle.command_line.specs.declared.commands.Arrivals.{Arrivals}
use Rattle.command_line.specs.declared.commands.Arrivals.TheVariants.{Absent, Recorded, Generated}
use Rattle.command_line.specs.declared.commands.Check.{Check}
use Rattle.command_line.specs.declared.commands.Check.TheVariants.{Unchecked, Verified, HasRow, AtCycleEnd}
use Rattle.command_line.specs.declared.commands.Second.{Second}
use Rattle.command_line.specs.declared.commands.Second.TheVariants.{Unread, Read}
use Rattle.command_line.specs.declared.commands.Source.{Source}
use Rattle.command_line.specs.declared.commands.Source.TheVariants.{Tasks, Spelled, Load}
use Rattle.command_line.specs.Commands.{is_file_of, is_second_of, is_recorded_in}
use Rattle.command_line.proofs.CommandLemmas.{no-plan, no-plan_of_second, no-plan_of_trace}
use Rattle.run_steps.specs.Readings.{limited_bytes, bytes_of, sound_set, feasible_plan, planned_plan, spelled_plan, plan_from, of_second, second_plan, second_from, fitting_arrivals, recorded_arrivals, arrivals_from, lawful_trace, row_among, whole_cycles, check_from}
use Rattle.run_steps.specs.Stages.{stage_of, stage_due}

-- the refusal is found in bytes that a read gave, whatever their number
abbrev pub is_of_bytes : Refusal → Bool
is_of_bytes (TooLarge file) = false
is_of_bytes e = is_found e

-- the refusal of a step, if it has one, is found so
abbrev pub AllFound : {X : Type 0} → Outcome X → Type 0
AllFound (Ok x) = ⊤
AllFound (Err e) = is_of_bytes e ≡ true

AllFound-bind : {X Y : Type 0} (first : Outcome X) (next : X → Outcome Y) → AllFound first → ((x : X) → AllFound (next x)) → AllFound (first >>= next)
AllFound-bind (Ok x) next before after = after x
AllFound-bind (Err e) next before after = before

-- the refusal of a step, if it has one, comes at this stage or later
abbrev pub AllFrom : {X : Type 0} → ℕ → Outcome X → Type 0
AllFrom n (Ok x) = ⊤
AllFrom n (Err e) = n ≤ stage_of e

pub AllFrom-bind : {X Y : Type 0} (n : ℕ) (first : Outcome X) (next : X → Outcome Y) → AllFrom n first → ((x : X) → AllFrom n (next x)) → AllFrom n (first >>= next)
AllFrom-bind n (Ok x) next before after = after x
AllFrom-bind n (Err e) next before after = before

pub AllFrom-lower : {X : Type 0} (n m : ℕ) (step : Outcome X) → n ≤ m → AllFrom m step → AllFrom n step
AllFrom-lower n m (Ok x) lower from = tt
AllFrom-lower n m (Err e) lower from = omega (arith, lower, from)

-- so does what is due
pub stage-from : {X : Type 0} (n : ℕ) (due : Outcome X) → n ≤ 15 → AllFrom n due → n ≤ stage_due due
stage-from n (Ok text) small from = small
stage-from n (Err e) small from = from

AllFrom-limited_bytes : (n : ℕ) (file : File) (bytes : List ℕ) (b : Bool) → n ≤ stage_of (TooLarge file) → AllFrom n (let step : Outcome (List ℕ) = if b then Err (TooLarge file) else Ok bytes in step)
AllFrom-limited_bytes n file bytes true from = from
AllFrom-limited_bytes n file bytes false from = tt

AllFrom-bytes : (n : ℕ) (file : File) (o : Option (List ℕ)) → n ≤ stage_of (Unreadable file) → n ≤ stage_of (TooLarge file) → AllFrom n (option_map_or (limited_bytes file) o (Err (Unreadable file)))
AllFrom-bytes n file None unreadable large = unreadable
AllFrom-bytes n file (Some bytes) unreadable large =
    AllFrom-limited_bytes n file bytes (nat_lt (limit_of file) (length bytes)) large

-- what the steps over bytes refuse, and at which stage
record IsFoundFrom {X : Type 0} (n : ℕ) (step : Outcome X) : Type 0 where
  found : AllFound step
  from : AllFrom n step

IsFoundFrom-set : (r : Result TaskSet TaskFault) → IsFoundFrom 3 (let step : Outcome TaskSet = result_map_both (λ (set : TaskSet). set) BadTasks r in step)
IsFoundFrom-set (Ok set) = record { found = tt; from = tt }
IsFoundFrom-set (Err fault) = record { found = refl; from = omega arith }

IsFoundFrom-tested : (plan : PlanParts) (o : Option Window) → IsFoundFrom 3 (let step : Outcome PlanParts = option_map_or (λ window. Err (Infeasible window)) o (Ok plan) in step)
IsFoundFrom-tested plan None = record { found = tt; from = tt }
IsFoundFrom-tested plan (Some window) = record { found = refl; from = omega arith }

IsFoundFrom-table : (r : Result PlanParts TableFault) → IsFoundFrom 3 (let step : Outcome PlanParts = result_map_both (λ (plan : PlanParts). plan) BadTable r in step)
IsFoundFrom-table (Ok plan) = record { found = tt; from = tt }
IsFoundFrom-table (Err fault) = record { found = refl; from = omega arith }

IsFoundFrom-arrivals : (r : Result (List Arrival) ArrivalFault) → IsFoundFrom 11 (let step : Outcome (List Arrival) = result_map_both (λ (arrivals : List Arrival). arrivals) BadArrivals r in step)
IsFoundFrom-arrivals (Ok arrivals) = record { found = tt; from = tt }
IsFoundFrom-arrivals (Err fault) = record { found = refl; from = omega arith }

IsFoundFrom-trace : (plan : PlanParts) (r : Result ⊤ VerifyFault) → IsFoundFrom 14 (let step : Outcome ⊤ = result_map_both (λ (lawful : ⊤). lawful) (λ fault. NotVerified (verify_fault_text plan.tasks fault)) r in step)
IsFoundFrom-trace plan (Ok lawful) = record { found = tt; from = tt }
IsFoundFrom-trace plan (Err fault) = record { found = refl; from = omega arith }

IsFoundFrom-second_tested : (plan : PlanParts) (o : Option Window) → IsFoundFrom 7 (let step : Outcome (Option PlanParts) = result_map_both Some of_second (option_map_or (λ window. Err (Infeasible window)) o (Ok plan)) in step)
IsFoundFrom-second_tested plan None = record { found = tt; from = tt }
IsFoundFrom-second_tested plan (Some window) = record { found = refl; from = omega arith }

IsFoundFrom-second_set : (r : Result TaskSet TaskFault) → IsFoundFrom 7 (let step : Outcome (Option PlanParts) = result_map_both Some of_second (result_map_both (λ (set : TaskSet). set) BadTasks r >>= feasible_plan) in step)
IsFoundFrom-second_set (Ok set) = IsFoundFrom-second_tested (planned set) (counterexample set (cycle_of set))
IsFoundFrom-second_set (Err fault) = record { found = refl; from = omega arith }

IsFoundFrom-row : (row : ℕ) (short : Bool) → IsFoundFrom 14 (let step : Outcome ⊤ = if short then Err (NoRow row) else Ok tt in step)
IsFoundFrom-row row true = record { found = refl; from = omega arith }
IsFoundFrom-row row false = record { found = tt; from = tt }

IsFoundFrom-turn : (cycle : ℕ) (whole : Bool) → IsFoundFrom 14 (let step : Outcome ⊤ = if whole then Ok tt else Err (NotCycleEnd cycle) in step)
IsFoundFrom-turn cycle true = record { found = tt; from = tt }
IsFoundFrom-turn cycle false = record { found = refl; from = omega arith }

IsFoundFrom-bind : {X Y : Type 0} (n : ℕ) (first : Outcome X) (next : X → Outcome Y) → IsFoundFrom n first → ((x : X) → IsFoundFrom n (next x)) → IsFoundFrom n (first >>= next)
IsFoundFrom-bind n first next before after =
    record {
      found = AllFound-bind first next before.found (λ x. (after x).found);
      from = AllFrom-bind n first next before.from (λ x. (after x).from);
    }

IsFoundFrom-planned : (bytes : List ℕ) → IsFoundFrom 3 (planned_plan bytes)
IsFoundFrom-planned bytes =
    IsFoundFrom-bind 3 (sound_set bytes) feasible_plan (IsFoundFrom-set (reading_of_tasks bytes)) (λ set. IsFoundFrom-tested (planned set) (counterexample set (cycle_of set)))

IsFoundFrom-spelled : (bytes : List ℕ) → IsFoundFrom 3 (spelled_plan bytes)
IsFoundFrom-spelled bytes = IsFoundFrom-table (reading_of_table bytes)

IsFoundFrom-second : (bytes : List ℕ) → IsFoundFrom 7 (second_plan bytes)
IsFoundFrom-second bytes = IsFoundFrom-second_set (reading_of_tasks bytes)

IsFoundFrom-fitting : (bytes : List ℕ) (slots : ℕ) (set : TaskSet) → IsFoundFrom 11 (fitting_arrivals bytes slots set)
IsFoundFrom-fitting bytes slots set = IsFoundFrom-arrivals (reading_of_arrivals bytes slots set)

IsFoundFrom-lawful : (bytes : List ℕ) (slots : ℕ) (plan : PlanParts) (arrivals : List Arrival) → IsFoundFrom 14 (lawful_trace bytes slots plan arrivals)
IsFoundFrom-lawful bytes slots plan arrivals =
    IsFoundFrom-trace plan (verdict plan.tasks plan.cycle arrivals slots bytes)

IsFoundFrom-among : (row : ℕ) (arrivals : List Arrival) → IsFoundFrom 14 (row_among row arrivals)
IsFoundFrom-among row arrivals = IsFoundFrom-row row (nat_lt (length arrivals) row)

IsFoundFrom-cycles : (cycle slots : ℕ) → IsFoundFrom 14 (whole_cycles cycle slots)
IsFoundFrom-cycles cycle slots = IsFoundFrom-turn cycle (slots % cycle == 0)

-- what the steps refuse is found in the bytes
pub found-set : (bytes : List ℕ) → AllFound (sound_set bytes)
found-set bytes = (IsFoundFrom-set (reading_of_tasks bytes)).found

pub found-planned : (bytes : List ℕ) → AllFound (planned_plan bytes)
found-planned bytes = (IsFoundFrom-planned bytes).found

pub found-spelled : (bytes : List ℕ) → AllFound (spelled_plan bytes)
found-spelled bytes = (IsFoundFrom-spelled bytes).found

pub found-second : (bytes : List ℕ) → AllFound (second_plan bytes)
found-second bytes = (IsFoundFrom-second bytes).found

pub found-among : (row : ℕ) (arrivals : List Arrival) → AllFound (row_among row arrivals)
found-among row arrivals = (IsFoundFrom-among row arrivals).found

pub found-cycles : (cycle slots : ℕ) → AllFound (whole_cycles cycle slots)
found-cycles cycle slots = (IsFoundFrom-cycles cycle slots).found

pub found-fitting : (bytes : List ℕ) (slots : ℕ) (set : TaskSet) → AllFound (fitting_arrivals bytes slots set)
found-fitting bytes slots set = (IsFoundFrom-fitting bytes slots set).found

pub found-lawful : (bytes : List ℕ) (slots : ℕ) (plan : PlanParts) (arrivals : List Arrival) → AllFound (lawful_trace bytes slots plan arrivals)
found-lawful bytes slots plan arrivals = (IsFoundFrom-lawful bytes slots plan arrivals).found

-- a file is read, and then its bytes
AllFrom-read : {X : Type 0} (held : Held) (words : List (List ℕ)) (n m : ℕ) (file : File) (next : List ℕ → Outcome X) → n ≤ stage_of (Unreadable file) → n ≤ stage_of (TooLarge file) → n ≤ m → ((bytes : List ℕ) → IsFoundFrom m (next bytes)) → AllFrom n (bytes_of held words file >>= next)
AllFrom-read held words n m file next unreadable large lower after =
    let read = AllFrom-bytes n file (first_bytes held (name_of words file) (limit_of file)) unreadable large in
    AllFrom-bind n (bytes_of held words file) next read (λ bytes. AllFrom-lower n m (next bytes) lower (after bytes).from)

-- the plan, from the reading of its file on
pub AllFrom-plan : (held : Held) (words : List (List ℕ)) (source : Source) → AllFrom 1 (plan_from held words source)
AllFrom-plan held words Tasks = AllFrom-read held words 1 3 TaskFile planned_plan (omega arith) (omega arith) (omega arith) IsFoundFrom-planned
AllFrom-plan held words Spelled = AllFrom-read held words 1 3 TableFile spelled_plan (omega arith) (omega arith) (omega arith) IsFoundFrom-spelled
AllFrom-plan held words (Load n) = tt

-- the second plan, from the reading of its file on
pub AllFrom-second : (held : Held) (words : List (List ℕ)) (second : Second) → AllFrom 5 (second_from held words second)
AllFrom-second held words Unread = tt
AllFrom-second held words Read = AllFrom-read held words 5 7 SecondFile second_plan (omega arith) (omega arith) (omega arith) IsFoundFrom-second

-- the arrivals, from the reading of their file on
AllFrom-recorded : (held : Held) (words : List (List ℕ)) (slots : ℕ) (set : TaskSet) → AllFrom 9 (recorded_arrivals held words slots set)
AllFrom-recorded held words slots set =
    AllFrom-read held words 9 11 ArrivalsFile (λ bytes. fitting_arrivals bytes slots set) (omega arith) (omega arith) (omega arith) (λ bytes. IsFoundFrom-fitting bytes slots set)

pub AllFrom-arrivals : (held : Held) (words : List (List ℕ)) (arrivals : Arrivals) (set : TaskSet) → AllFrom 9 (arrivals_from held words arrivals set)
AllFrom-arrivals held words Absent set = tt
AllFrom-arrivals held words (Recorded slots) set = AllFrom-recorded held words slots set
AllFrom-arrivals held words (Generated n) set = tt

-- what is asked of them, from the reading of a trace on
pub AllFrom-check : (held : Held) (words : List (List ℕ)) (check : Check) (slots : ℕ) (plan : PlanParts) (arrivals : List Arrival) → AllFrom 12 (check_from held words check slots plan arrivals)
AllFrom-check held words Unchecked slots plan arrivals = tt
AllFrom-check held words Verified slots plan arrivals =
    AllFrom-read held words 12 14 TraceFile (λ bytes. lawful_trace bytes slots plan arrivals) (omega arith) (omega arith) (omega arith) (λ bytes. IsFoundFrom-lawful bytes slots plan arrivals)
AllFrom-check held words (HasRow row) slots plan arrivals =
    AllFrom-lower 12 14 (row_among row arrivals) (omega arith) (IsFoundFrom-among row arrivals).from
AllFrom-check held words AtCycleEnd slots plan arrivals =
    AllFrom-lower 12 14 (whole_cycles plan.cycle slots) (omega arith) (IsFoundFrom-cycles plan.cycle slots).from

-- the files of the steps are read at these stages
pub stage-plan_file : (source : Source) (file : File) → is_file_of source file ≡ true → stage_of (Unreadable file) ≤ 1
stage-plan_file source TaskFile is = omega arith
stage-plan_file source TableFile is = omega arith
stage-plan_file source SecondFile is = absurd (no-plan_of_second source is)
stage-plan_file source ArrivalsFile is = absurd (no-plan source is)
stage-plan_file source TraceFile is = absurd (no-plan_of_trace source is)

pub stage-second_file : (second : Second) (file : File) → is_second_of second file ≡ true → stage_of (Unreadable file) ≤ 5
stage-second_file Unread file is = cc
stage-second_file Read TaskFile is = omega arith
stage-second_file Read TableFile is = omega arith
stage-second_file Read SecondFile is = omega arith
stage-second_file Read ArrivalsFile is = cc
stage-second_file Read TraceFile is = cc

pub stage-arrivals_file : (arrivals : Arrivals) (file : File) → is_recorded_in arrivals file ≡ true → stage_of (Unreadable file) ≤ 9
stage-arrivals_file Absent file is = cc
stage-arrivals_file (Generated n) file is = cc
stage-arrivals_file (Recorded slots) TaskFile is = omega arith
stage-arrivals_file (Recorded slots) TableFile is = omega arith
stage-arrivals_file (Recorded slots) SecondFile is = omega arith
stage-arrivals_file (Recorded slots) ArrivalsFile is = omega arith
stage-arrivals_file (Recorded slots) TraceFile is = cc

pub stage-trace_file : (file : File) → stage_of (Unreadable file) ≤ 12
stage-trace_file TaskFile = omega arith
stage-trace_file TableFile = omega arith
stage-trace_file SecondFile = omega arith
stage-trace_file ArrivalsFile = omega arith
stage-trace_file TraceFile = omega arith
