-- The faults of lines, and their texts.
use Rattle.std.specs.Prelude.{ℕ, ◌-◌, List, [], ◌∷◌, ◌++◌, codes}
use Rattle.slot_core.specs.Output.Texts.{worded}
use Rattle.faults.specs.declared.arrival_fault.ArrivalFault.{ArrivalFault}
use Rattle.faults.specs.declared.arrival_fault.ArrivalFault.TheVariants.{BadNumber as BadField, UnknownSporadic as UnknownName, BadKey as BadKeyField}
use Rattle.live_lines.specs.declared.line_fault.LineFault.{LineFault}
use Rattle.live_lines.specs.declared.line_fault.LineFault.TheVariants.{NoCommand, BadNumber, UnknownSporadic, BadKey, TooLong, NoMoreRows, NoMoreSlots, NotUtf8}

-- the fault of a line whose words after the kind are read as the fields of an arrivals file: they
-- stand one place further to the front, since a line tells no slot
abbrev pub line_fault : ArrivalFault → LineFault
line_fault (BadField row field) = BadNumber (field - 1)
line_fault (UnknownName row) = UnknownSporadic
line_fault (BadKeyField row) = BadKey
line_fault _ = NoCommand

-- what is wrong with a line
abbrev pub line_fault_text : LineFault → List ℕ
line_fault_text NoCommand = codes "no command"
line_fault_text (BadNumber place) = worded (codes "bad number") place
line_fault_text UnknownSporadic = codes "unknown sporadic"
line_fault_text BadKey = codes "bad key"
line_fault_text TooLong = codes "too long"
line_fault_text NoMoreRows = codes "no more rows"
line_fault_text NoMoreSlots = codes "no more slots"
line_fault_text NotUtf8 = codes "not UTF-8"

-- the line that tells the fault of the line of this number
abbrev pub fault_line : ℕ → LineFault → List ℕ
fault_line number fault =
    worded (codes "line") number ++ codes ": " ++ line_fault_text fault ++ 10 ∷ []
