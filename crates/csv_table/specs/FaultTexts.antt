-- The texts of faults.
use Rattle.std.specs.Prelude.{ℕ, List, codes}
use Rattle.csv_table.specs.declared.faults.CsvFault.{CsvFault}
use Rattle.csv_table.specs.declared.faults.CsvFault.TheVariants.{Memory, Failed}

-- why a table is not written in whole
abbrev pub fault_text : CsvFault → List ℕ
fault_text Memory = codes "out of memory"
fault_text Failed = codes "failed"
