-- The texts of faults.
use Rattle.std.specs.Prelude.{ℕ, List, ◌++◌, codes, decimal}
use Rattle.slot_core.specs.Output.FaultTexts.{place_text}
use Rattle.clock_units.specs.declared.faults.UnitFault.{UnitFault}
use Rattle.clock_units.specs.declared.faults.UnitFault.TheVariants.{Memory, NoWorth, NotWhole, OutOfRange, TooMany}

-- why a set in physical time has no set in slots
abbrev pub unit_fault_text : UnitFault → List ℕ
unit_fault_text Memory = codes "out of memory"
unit_fault_text NoWorth = codes "overhead not below slot"
unit_fault_text (NotWhole place) = codes "not whole " ++ place_text place
unit_fault_text (OutOfRange place slots) =
    codes "out of range " ++ place_text place ++ codes " " ++ decimal slots
unit_fault_text (TooMany place count) =
    codes "too many " ++ place_text place ++ codes " " ++ decimal count
