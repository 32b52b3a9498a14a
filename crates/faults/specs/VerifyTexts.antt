-- The numbers and the texts of the faults of a recorded trace.
use Rattle.std.specs.Prelude.{ℕ, Bool, true, List, ◌∷◌, ◌++◌, codes}
use Rattle.slot_core.specs.declared.tasks.TaskSet.{TaskSet}
use Rattle.slot_core.specs.Output.Texts.{key_text, worded}
use Rattle.slot_core.specs.Runs.Arrivals.{key_in_set}
use Rattle.faults.specs.declared.verify_fault.VerifyFault.{VerifyFault}
use Rattle.faults.specs.declared.verify_fault.VerifyFault.TheVariants.{Memory, Short, NoRun, NotReady, Differs, Late, Trailing}

-- the place of the fault's kind among the kinds, counted from 1
abbrev pub verify_fault_number : VerifyFault → ℕ
verify_fault_number Memory = 1
verify_fault_number (Short line) = 2
verify_fault_number (NoRun line) = 3
verify_fault_number (NotReady line key) = 4
verify_fault_number (Differs line) = 5
verify_fault_number (Late line key) = 6
verify_fault_number (Trailing line) = 7

-- the key that a fault names lies in the set
abbrev pub names_known : TaskSet → VerifyFault → Bool
names_known set (NotReady line key) = key_in_set set key
names_known set (Late line key) = key_in_set set key
names_known set _ = true

-- what is wrong with a recorded trace
abbrev pub verify_fault_text : TaskSet → VerifyFault → List ℕ
verify_fault_text set Memory = codes "out of memory"
verify_fault_text set (Short line) = worded (codes "trace short") line
verify_fault_text set (NoRun line) = worded (codes "trace no run") line
verify_fault_text set (NotReady line key) =
    worded (codes "trace not ready") line ++ 32 ∷ key_text set key
verify_fault_text set (Differs line) = worded (codes "trace differs") line
verify_fault_text set (Late line key) = worded (codes "trace late") line ++ 32 ∷ key_text set key
verify_fault_text set (Trailing line) = worded (codes "trace trailing") line
