-- The texts of faults.
use Rattle.std.specs.Prelude.{ℕ, List, codes}
use Rattle.slot_io.specs.declared.files.ReadFault.{ReadFault}
use Rattle.slot_io.specs.declared.files.ReadFault.TheVariants.{Memory, Failed}

-- why a read gives no bytes
abbrev pub read_fault_text : ReadFault → List ℕ
read_fault_text Memory = codes "out of memory"
read_fault_text Failed = codes "failed"
