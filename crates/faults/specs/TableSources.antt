-- What the faults of a task set are as faults of a table.
use Rattle.slot_core.specs.declared.faults.TaskFault.{TaskFault}
use Rattle.slot_core.specs.declared.faults.TaskFault.TheVariants.{Memory as NoMemory}
use Rattle.faults.specs.declared.table_fault.TableFault.{TableFault}
use Rattle.faults.specs.declared.table_fault.TableFault.TheVariants.{Memory, BadSource}

-- the fault of a task set, or want of memory
abbrev pub set_refused : TaskFault → TableFault
set_refused NoMemory = Memory
set_refused fault = BadSource fault
