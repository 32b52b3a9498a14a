-- The texts of faults.
use Rattle.std.specs.Prelude.{ℕ, List, codes, ◌++◌, decimal}
use Rattle.view_jobs.specs.declared.faults.JobsFault.{JobsFault}
use Rattle.view_jobs.specs.declared.faults.JobsFault.TheVariants.{Memory, Failed, NoLine}

-- why a table of jobs is not written in whole
abbrev pub fault_text : JobsFault → List ℕ
fault_text Memory = codes "out of memory"
fault_text Failed = codes "failed"
fault_text (NoLine number) = codes "no line " ++ decimal number
