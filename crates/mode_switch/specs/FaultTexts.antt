-- The texts of faults.
use Rattle.std.specs.Prelude.{ℕ, List, codes}
use Rattle.slot_core.specs.Output.Texts.{worded}
use Rattle.mode_switch.specs.declared.change.ChangeFault.{ChangeFault}
use Rattle.mode_switch.specs.declared.change.ChangeFault.TheVariants.{Memory, NoRoom}

-- why a change of plan is refused
abbrev pub change_fault_text : ChangeFault → List ℕ
change_fault_text Memory = codes "out of memory"
change_fault_text (NoRoom e) = worded (worded (worded (codes "noroom") e.until) e.need) e.room
