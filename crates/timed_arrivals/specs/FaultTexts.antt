-- The texts of faults.
use Rattle.std.specs.Prelude.{ℕ, List, ◌++◌, codes, decimal}
use Rattle.timed_arrivals.specs.declared.timed_fault.TimedFault.{TimedFault}
use Rattle.timed_arrivals.specs.declared.timed_fault.TimedFault.TheVariants.{Memory, BadRow, BadTime, UnknownKind, TooMany, NoLine, TooLate}

-- why arrivals with times, or a trace, are refused
abbrev pub timed_fault_text : TimedFault → List ℕ
timed_fault_text Memory = codes "out of memory"
timed_fault_text (BadRow row) = codes "bad row " ++ decimal row
timed_fault_text (BadTime row field) =
    codes "bad time " ++ decimal row ++ codes " " ++ decimal field
timed_fault_text (UnknownKind row) = codes "unknown kind " ++ decimal row
timed_fault_text TooMany = codes "too many"
timed_fault_text (NoLine line) = codes "no line " ++ decimal line
timed_fault_text (TooLate line) = codes "too late " ++ decimal line
