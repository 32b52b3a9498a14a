-- The numbers of the faults of a table.
use Rattle.std.specs.Prelude.{ℕ}
use Rattle.faults.specs.declared.table_fault.TableFault.{TableFault}
use Rattle.faults.specs.declared.table_fault.TableFault.TheVariants.{Memory, Short, BadMagic, BadVersion, BadSource, Infeasible, WrongJobCount, WrongJob, WrongSpanCount, WrongSpan, Trailing}

-- the place of the fault's kind among the kinds, counted from 1
abbrev pub fault_number : TableFault → ℕ
fault_number Memory = 1
fault_number (Short _) = 2
fault_number BadMagic = 3
fault_number (BadVersion _) = 4
fault_number (BadSource _) = 5
fault_number (Infeasible _) = 6
fault_number (WrongJobCount _ _) = 7
fault_number (WrongJob _ _ _) = 8
fault_number (WrongSpanCount _ _) = 9
fault_number (WrongSpan _ _ _) = 10
fault_number (Trailing _) = 11
