-- The faults of a table in numbers.
use Rattle.std.specs.Prelude.{◌≡◌, ◌⊎◌, ℕ, List, Err}
use Rattle.slot_core.specs.Output.FaultNumbers.{fault_number as task_fault_number}
use Rattle.faults.specs.declared.table_fault.TableFault.{TableFault}
use Rattle.faults.specs.declared.table_fault.TableFault.TheVariants.{Memory, Short, BadMagic, BadVersion, BadSource, Infeasible, WrongJobCount, WrongJob, WrongSpanCount, WrongSpan, Trailing}
use Rattle.table_codec.specs.Grammar.{reading_of_table}
use Rattle.slot_port.specs.declared.numbers.Told.{Told}
use Rattle.slot_port.specs.declared.status.TheConstants.{MEMORY, BAD_TABLE}
use Rattle.slot_port.specs.Answers.{one_number, three_numbers}

-- the number of a fault, and of what it tells up to three numbers: a count of bytes, a version, the
-- number of the fault of a task set, a window, two counts, or a place
abbrev pub fault_numbers : TableFault → Told
fault_numbers Memory = one_number 1 0
fault_numbers (Short at) = one_number 2 at
fault_numbers BadMagic = one_number 3 0
fault_numbers (BadVersion version) = one_number 4 version
fault_numbers (BadSource fault) = one_number 5 (task_fault_number fault)
fault_numbers (Infeasible window) = three_numbers 6 window.from window.until window.demand
fault_numbers (WrongJobCount stored computed) = three_numbers 7 stored computed 0
fault_numbers (WrongJob place stored computed) = one_number 8 place
fault_numbers (WrongSpanCount stored computed) = three_numbers 9 stored computed 0
fault_numbers (WrongSpan place stored computed) = one_number 10 place
fault_numbers (Trailing at) = one_number 11 at

-- these bytes have a fault, and its numbers are told
abbrev pub TellsFault : List ℕ → Told → Type 0
TellsFault bytes told =
    (fault : TableFault) × (reading_of_table bytes ≡ Err fault) × (told ≡ fault_numbers fault)

-- no executive was opened: memory ran out and nothing is told, or the bytes have a fault, which is
-- told
abbrev pub IsRefused : List ℕ → Told → Told → ℕ → Type 0
IsRefused bytes before after status =
    ((status ≡ MEMORY) × (after ≡ before)) ⊎ ((status ≡ BAD_TABLE) × TellsFault bytes after)
