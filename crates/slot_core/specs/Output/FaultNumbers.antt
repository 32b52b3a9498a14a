-- The numbers of the faults of a task file.
use Rattle.std.specs.Prelude.{ℕ}
use Rattle.slot_core.specs.declared.faults.TaskFault.{TaskFault}
use Rattle.slot_core.specs.declared.faults.TaskFault.TheVariants.{Memory, NotToml, UnknownKey, Missing, WrongKind, OutOfRange, BadName, Doubled, NoSuchTask, Loop, TooMany, CycleTooLong}

-- the place of the fault's kind among the kinds, counted from 1
abbrev pub fault_number : TaskFault → ℕ
fault_number Memory = 1
fault_number NotToml = 2
fault_number (UnknownKey _) = 3
fault_number (Missing _) = 4
fault_number (WrongKind _) = 5
fault_number (OutOfRange _ _) = 6
fault_number (BadName _) = 7
fault_number (Doubled _) = 8
fault_number (NoSuchTask _) = 9
fault_number (Loop _ _) = 10
fault_number (TooMany _ _) = 11
fault_number (CycleTooLong _) = 12
