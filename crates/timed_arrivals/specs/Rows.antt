-- A row of arrivals with times, and the row of an arrivals file that stands for it.
use Rattle.std.specs.Prelude.{ℕ, ◌+◌, ◌-◌, List, ◌++◌, codes, decimal, Result, Ok, ok_or}
use Rattle.slot_core.specs.Calls.Results.{◌>>=◌}
use Rattle.key_texts.specs.KeyTexts.{cut_at}
use Rattle.time_texts.specs.Reading.{time_of_text}
use Rattle.clock_units.specs.Rounding.{down, up}
use Rattle.arrival_csv.specs.declared.kinds.Kind.{Kind}
use Rattle.arrival_csv.specs.declared.kinds.Kind.TheVariants.{Soft, Firm, Sporadic, Done, Withdraw}
use Rattle.arrival_csv.specs.Kinds.{kind_of, kind_word}
use Rattle.timed_arrivals.specs.declared.timed_fault.TimedFault.{TimedFault}
use Rattle.timed_arrivals.specs.declared.timed_fault.TimedFault.TheVariants.{BadRow, BadTime, UnknownKind}
use Rattle.timed_arrivals.specs.declared.row.SlotEvent.{SlotEvent}
use Rattle.timed_arrivals.specs.declared.row.SlotEvent.TheVariants.{Slots, Offer, Copied}

-- a value or the first fault
abbrev pub Timed : Type 0 → Type 0
Timed X = Result X TimedFault

-- the time in a field
abbrev pub time_in : ℕ → ℕ → List ℕ → Timed ℕ
time_in row field text = ok_or (time_of_text text) (BadTime row field)

-- the front of a row: when it comes, what comes, and the fields after the second
pub record HeadParts : Type 0 where
  pub at : ℕ
  pub kind : Kind
  pub fields : List ℕ

-- the front of the row of a number: its fields stand between commas (byte 44)
abbrev pub head_of : ℕ → List ℕ → Timed HeadParts
head_of row line = do
  first ← ok_or (cut_at 44 line) (BadRow row)
  at ← time_in row 1 first.0
  second ← ok_or (cut_at 44 first.1) (BadRow row)
  kind ← ok_or (kind_of second.0) (UnknownKind row)
  Ok (record { at = at; kind = kind; fields = second.1 })

-- from the boundary at which it is handed over to the last one at or before the end of its time
abbrev pub slots_within : ℕ → ℕ → ℕ → ℕ
slots_within slot at deadline = down slot (at + deadline) - up slot at

-- a firm request: its time up, and its deadline inwards
abbrev pub firm_of : ℕ → ℕ → ℕ → ℕ → List ℕ → Timed SlotEvent
firm_of slot worth row at fields = do
  both ← ok_or (cut_at 44 fields) (BadRow row)
  wcet ← time_in row 3 both.0
  deadline ← time_in row 4 both.1
  Ok (Offer (up worth wcet) (slots_within slot at deadline))

-- soft work: its time up
abbrev pub soft_of : ℕ → ℕ → List ℕ → Timed SlotEvent
soft_of worth row fields = do
  wcet ← time_in row 3 fields
  Ok (Slots (up worth wcet))

-- what stands in slots for the fields after the second
abbrev pub event_of : ℕ → ℕ → ℕ → ℕ → Kind → List ℕ → Timed SlotEvent
event_of slot worth row at Soft fields = soft_of worth row fields
event_of slot worth row at Firm fields = firm_of slot worth row at fields
event_of slot worth row at Sporadic fields = Ok Copied
event_of slot worth row at Done fields = Ok Copied
event_of slot worth row at Withdraw fields = Ok Copied

-- its text
abbrev pub event_text : SlotEvent → List ℕ → List ℕ
event_text (Slots slots) fields = decimal slots
event_text (Offer slots within) fields = decimal slots ++ codes "," ++ decimal within
event_text Copied fields = fields

-- the row of an arrivals file
abbrev pub row_text : ℕ → Kind → SlotEvent → List ℕ → List ℕ
row_text at kind event fields =
    decimal at ++ codes "," ++ kind_word kind ++ codes "," ++ event_text event fields ++ codes "\n"

-- the row in slots, handed over at the boundary at which it comes, or else at the next one
abbrev pub row_in_slots : ℕ → ℕ → ℕ → List ℕ → Timed (List ℕ)
row_in_slots slot worth row line = do
  head ← head_of row line
  event ← event_of slot worth row head.at head.kind head.fields
  Ok (row_text (up slot head.at) head.kind event head.fields)
