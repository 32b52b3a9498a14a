-- The texts of the faults of an arrivals file.
use Rattle.std.specs.Prelude.{ℕ, List, codes}
use Rattle.slot_core.specs.Output.Texts.{worded}
use Rattle.faults.specs.declared.arrival_fault.ArrivalFault.{ArrivalFault}
use Rattle.faults.specs.declared.arrival_fault.ArrivalFault.TheVariants.{Memory, BadRow, UnknownKind, BadNumber, OutOfOrder, PastEnd, UnknownSporadic, BadKey, TooMany}

-- what is wrong with an arrivals file
abbrev pub arrival_fault_text : ArrivalFault → List ℕ
arrival_fault_text Memory = codes "out of memory"
arrival_fault_text (BadRow row) = worded (codes "bad row") row
arrival_fault_text (UnknownKind row) = worded (codes "unknown kind") row
arrival_fault_text (BadNumber row field) = worded (worded (codes "bad number") row) field
arrival_fault_text (OutOfOrder row before slot) =
    worded (worded (worded (codes "out of order") row) before) slot
arrival_fault_text (PastEnd row slot) = worded (worded (codes "past end") row) slot
arrival_fault_text (UnknownSporadic row) = worded (codes "unknown sporadic") row
arrival_fault_text (BadKey row) = worded (codes "bad key") row
arrival_fault_text TooMany = codes "too many"
