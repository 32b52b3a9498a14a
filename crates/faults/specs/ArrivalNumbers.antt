-- The numbers of the faults of an arrivals file.
use Rattle.std.specs.Prelude.{ℕ}
use Rattle.faults.specs.declared.arrival_fault.ArrivalFault.{ArrivalFault}
use Rattle.faults.specs.declared.arrival_fault.ArrivalFault.TheVariants.{Memory, BadRow, UnknownKind, BadNumber, OutOfOrder, PastEnd, UnknownSporadic, BadKey, TooMany}

-- the place of the fault's kind among the kinds, counted from 1
abbrev pub fault_number : ArrivalFault → ℕ
fault_number Memory = 1
fault_number (BadRow _) = 2
fault_number (UnknownKind _) = 3
fault_number (BadNumber _ _) = 4
fault_number (OutOfOrder _ _ _) = 5
fault_number (PastEnd _ _) = 6
fault_number (UnknownSporadic _) = 7
fault_number (BadKey _) = 8
fault_number TooMany = 9
