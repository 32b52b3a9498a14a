-- How a run comes out: done, or refused, with a status and the line that tells why.
use Rattle.std.specs.Prelude.{ℕ, Bool, true, false, List, [], ◌∷◌, ◌++◌, Result, Ok, Err, codes, slice_get, unwrap_or, length, ◌==◌, if◌then◌else◌}
use Rattle.slot_core.specs.Output.FaultTexts.{task_fault_text, infeasible_text}
use Rattle.slot_core.specs.Output.Texts.{worded}
use Rattle.slot_core.specs.declared.faults.TaskFault.{TaskFault}
use Rattle.slot_core.specs.declared.faults.TaskFault.TheVariants.{Memory as TasksMemory}
use Rattle.faults.specs.ArrivalTexts.{arrival_fault_text}
use Rattle.faults.specs.declared.arrival_fault.ArrivalFault.{ArrivalFault}
use Rattle.faults.specs.declared.arrival_fault.ArrivalFault.TheVariants.{Memory as ArrivalsMemory}
use Rattle.faults.specs.TableTexts.{table_fault_text}
use Rattle.faults.specs.declared.table_fault.TableFault.{TableFault}
use Rattle.faults.specs.declared.table_fault.TableFault.TheVariants.{Memory as TableMemory}
use Rattle.command_line.specs.declared.file.TheConstants.{CHANGE_WORDS}
use Rattle.command_line.specs.declared.status.Status.{Status}
use Rattle.command_line.specs.declared.file.File.{File}
use Rattle.command_line.specs.declared.file.File.TheVariants.{Tasks, Table, Second, Arrivals, Trace}
use Rattle.command_line.specs.declared.refusal.Refusal.{Refusal}
use Rattle.command_line.specs.declared.refusal.Refusal.TheVariants.{Usage, Unreadable, TooLarge, BadTasks, Infeasible, BadTable, BadArrivals, NotVerified, BadSecond, SecondInfeasible, NoRow, NotCycleEnd, NoChange, WriteFault, Memory}
use Rattle.slot_core.specs.declared.TheConstants.{TASK_FILE_LIMIT, TABLE_FILE_LIMIT, ARRIVALS_FILE_LIMIT, READ_LIMIT}

-- how a step of the work, or a whole run, comes out: a value, or the refusal that ends the run
abbrev pub Outcome : Type 0 → Type 0
Outcome X = Result X Refusal

-- the word at this place, counted from 0
abbrev pub word_at : List (List ℕ) → ℕ → List ℕ
word_at words i = unwrap_or (slice_get words i) []

-- the two are the same file
abbrev pub same_file : File → File → Bool
same_file Tasks Tasks = true
same_file Table Table = true
same_file Second Second = true
same_file Arrivals Arrivals = true
same_file Trace Trace = true
same_file _ _ = false

-- the place of the arrivals file among so many words: the second, or the third where a second task
-- file stands before it
abbrev pub arrivals_place : ℕ → ℕ
arrivals_place words = if words == CHANGE_WORDS then 3 else 2

-- the name of a file among the words
abbrev pub name_of : List (List ℕ) → File → List ℕ
name_of words Tasks = word_at words 1
name_of words Table = word_at words 1
name_of words Second = word_at words 2
name_of words Arrivals = word_at words (arrivals_place (length words))
name_of words Trace = word_at words 3

-- the most bytes that it may have
abbrev pub limit_of : File → ℕ
limit_of Tasks = TASK_FILE_LIMIT
limit_of Table = TABLE_FILE_LIMIT
limit_of Second = TASK_FILE_LIMIT
limit_of Arrivals = ARRIVALS_FILE_LIMIT
limit_of Trace = READ_LIMIT

-- the refusal of a fault of the task file
abbrev pub refusal_of_task_fault : TaskFault → Refusal
refusal_of_task_fault TasksMemory = Memory
refusal_of_task_fault fault = BadTasks fault

-- of the table file
abbrev pub refusal_of_table_fault : TableFault → Refusal
refusal_of_table_fault TableMemory = Memory
refusal_of_table_fault fault = BadTable fault

-- of the arrivals file
abbrev pub refusal_of_arrival_fault : ArrivalFault → Refusal
refusal_of_arrival_fault ArrivalsMemory = Memory
refusal_of_arrival_fault fault = BadArrivals fault

-- the status of a refusal
abbrev pub refusal_status : Refusal → Status
refusal_status Usage = Status.Usage
refusal_status (Unreadable file) = Status.FileFault
refusal_status (TooLarge file) = Status.TooLarge
refusal_status (BadTasks fault) = Status.BadTasks
refusal_status (Infeasible window) = Status.Infeasible
refusal_status (BadTable fault) = Status.BadTable
refusal_status (BadArrivals fault) = Status.BadArrivals
refusal_status (NotVerified reason) = Status.NotVerified
refusal_status (BadSecond fault) = Status.BadTasks
refusal_status (SecondInfeasible window) = Status.Infeasible
refusal_status (NoRow row) = Status.NoRow
refusal_status (NotCycleEnd cycle) = Status.SwitchRefused
refusal_status (NoChange evidence) = Status.SwitchRefused
refusal_status WriteFault = Status.WriteFault
refusal_status Memory = Status.Memory

-- the status of a run
abbrev pub status_of : {X : Type 0} → Outcome X → Status
status_of (Ok value) = Status.Done
status_of (Err refusal) = refusal_status refusal

-- why the run is refused, without the line feed
abbrev pub reason_of : List (List ℕ) → Refusal → List ℕ
reason_of words Usage =
    codes "usage: slotshift check T, table T, show B, replay T A N, "
    ++ codes "replay-table B A N, gantt T A N, selfrun N, migrate B, verify T A X N, "
    ++ codes "explain T A N R, switch T U A N C, margin T"
reason_of words (Unreadable file) = codes "cannot read " ++ name_of words file
reason_of words (TooLarge file) = codes "too large " ++ worded (name_of words file) (limit_of file)
reason_of words (BadTasks fault) = codes "tasks " ++ task_fault_text fault
reason_of words (Infeasible window) = infeasible_text window
reason_of words (BadTable fault) = codes "table " ++ table_fault_text fault
reason_of words (BadArrivals fault) = codes "arrivals " ++ arrival_fault_text fault
reason_of words (NotVerified reason) = reason
reason_of words (BadSecond fault) = codes "tasks " ++ task_fault_text fault
reason_of words (SecondInfeasible window) = infeasible_text window
reason_of words (NoRow row) = worded (codes "no row") row
reason_of words (NotCycleEnd cycle) = worded (codes "switch not at cycle end") cycle
reason_of words (NoChange e) =
    worded (worded (worded (codes "switch noroom") e.until) e.need) e.room
reason_of words WriteFault = codes "cannot write"
reason_of words Memory = codes "out of memory"

-- the line of a refusal
abbrev pub refusal_line : List (List ℕ) → Refusal → List ℕ
refusal_line words refusal = reason_of words refusal ++ 10 ∷ []

-- what is put on standard error: nothing where the run is done, else the line of its refusal
abbrev pub fault_line : {X : Type 0} → List (List ℕ) → Outcome X → List ℕ
fault_line words (Ok value) = []
fault_line words (Err refusal) = refusal_line words refusal

-- the refusal is found in the bytes of the files, before anything is written
abbrev pub is_found : Refusal → Bool
is_found (TooLarge file) = true
is_found (BadTasks fault) = true
is_found (Infeasible window) = true
is_found (BadTable fault) = true
is_found (BadArrivals fault) = true
is_found (NotVerified reason) = true
is_found (BadSecond fault) = true
is_found (SecondInfeasible window) = true
is_found (NoRow row) = true
is_found (NotCycleEnd cycle) = true
is_found _ = false

-- the line of the refusal tells no value, so that it takes no memory
abbrev pub has_fixed_line : Refusal → Bool
has_fixed_line Usage = true
has_fixed_line WriteFault = true
has_fixed_line Memory = true
has_fixed_line _ = false
