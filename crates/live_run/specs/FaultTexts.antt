-- The texts of the faults of a dialogue.
use Rattle.std.specs.Prelude.{ℕ, List, codes}
use Rattle.live_run.specs.declared.streams.DialogueFault.{DialogueFault}
use Rattle.live_run.specs.declared.streams.DialogueFault.TheVariants.{Input, Record, Output}

-- why a dialogue ends before the end is asked for
abbrev pub dialogue_fault_text : DialogueFault → List ℕ
dialogue_fault_text Input = codes "cannot read lines"
dialogue_fault_text Record = codes "cannot write the record"
dialogue_fault_text Output = codes "cannot write answers"
