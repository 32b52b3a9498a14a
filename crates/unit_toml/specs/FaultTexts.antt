-- The words of keys, and the texts of faults.
use Rattle.std.specs.Prelude.{ℕ, List, ◌++◌, codes, decimal}
use Rattle.std.specs.Fmt.{signed_decimal}
use Rattle.slot_core.specs.Output.FaultTexts.{part_text}
use Rattle.unit_toml.specs.declared.keys.UnitKey.{UnitKey}
use Rattle.unit_toml.specs.declared.keys.UnitKey.TheVariants.{Slot, Overhead, Soft, Graph, Sporadic, Name, Period, Offset, Deadline, Task, Wcet, After, Separation, Plan, Arrives}
use Rattle.unit_toml.specs.declared.keys.UnitPlace.{UnitPlace}
use Rattle.unit_toml.specs.declared.faults.UnitsFault.{UnitsFault}
use Rattle.unit_toml.specs.declared.faults.UnitsFault.TheVariants.{Memory, NotToml, UnknownKey, Missing, WrongKind, OutOfRange, BadName, BadTime, BadWord, TooLong, TooMany}

-- the key's word in the file
abbrev pub key_word : UnitKey → List ℕ
key_word Slot = codes "slot"
key_word Overhead = codes "overhead"
key_word Soft = codes "soft"
key_word Graph = codes "graph"
key_word Sporadic = codes "sporadic"
key_word Name = codes "name"
key_word Period = codes "period"
key_word Offset = codes "offset"
key_word Deadline = codes "deadline"
key_word Task = codes "task"
key_word Wcet = codes "wcet"
key_word After = codes "after"
key_word Separation = codes "separation"
key_word Plan = codes "plan"
key_word Arrives = codes "arrives"

-- a table and a key of it
abbrev pub place_text : UnitPlace → List ℕ
place_text place = part_text place.part ++ codes " " ++ key_word place.key

-- what is wrong with a file of units
abbrev pub units_fault_text : UnitsFault → List ℕ
units_fault_text Memory = codes "out of memory"
units_fault_text NotToml = codes "not toml"
units_fault_text (UnknownKey part) = codes "unknown key in " ++ part_text part
units_fault_text (Missing place) = codes "missing " ++ place_text place
units_fault_text (WrongKind place) = codes "wrong kind " ++ place_text place
units_fault_text (OutOfRange place value) =
    codes "out of range " ++ place_text place ++ codes " " ++ signed_decimal value
units_fault_text (BadName place) = codes "bad name " ++ place_text place
units_fault_text (BadTime place) = codes "bad time " ++ place_text place
units_fault_text (BadWord place) = codes "bad word " ++ place_text place
units_fault_text (TooLong place) = codes "too long " ++ place_text place
units_fault_text (TooMany place count) =
    codes "too many " ++ place_text place ++ codes " " ++ decimal count
