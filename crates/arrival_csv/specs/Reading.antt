-- The reading of an arrivals file: the arrivals that its bytes write, or the first fault of them.
use Rattle.std.specs.Prelude.{◌≡◌, ◌≢◌, MatchResult, ℕ, ◌+◌, List, [], ◌∷◌, drop, nat_le, nat_lt, if◌then◌else◌, Result, Ok, Err, ok_or}
use Rattle.csv.specs.Reading.{records, default_config, strip_bom}
use Rattle.slot_core.specs.declared.TheConstants.{ARRIVAL_LIMIT, OFFER_LIMIT}
use Rattle.slot_core.specs.declared.events.Arrival.{Arrival}
use Rattle.slot_core.specs.declared.events.Event.{Event}
use Rattle.slot_core.specs.declared.events.Event.TheVariants.{Soft as SoftEvent, Firm as FirmEvent, Sporadic as SporadicEvent, Done as DoneEvent, Withdraw as WithdrawEvent}
use Rattle.slot_core.specs.declared.tasks.TaskSet.{TaskSet}
use Rattle.slot_core.specs.Calls.Results.{◌>>=◌}
use Rattle.faults.specs.declared.arrival_fault.ArrivalFault.{ArrivalFault}
use Rattle.faults.specs.declared.arrival_fault.ArrivalFault.TheVariants.{Memory, BadRow, UnknownKind, BadNumber, OutOfOrder, PastEnd, UnknownSporadic, BadKey, TooMany}
use Rattle.arrival_csv.specs.declared.kinds.Kind.{Kind}
use Rattle.arrival_csv.specs.declared.kinds.Kind.TheVariants.{Soft, Firm, Sporadic, Done, Withdraw}
use Rattle.key_texts.specs.KeyTexts.{key_of_text, sporadic_named}
use Rattle.arrival_csv.specs.Kinds.{kind_of}
use Rattle.key_texts.specs.Numbers.{number_of, number_between, row_number}

-- a value or the first fault
abbrev pub Read : Type 0 → Type 0
Read X = Result X ArrivalFault

-- the code's answer is what is read, as `seen` sees it, but that memory may run out
abbrev pub AnswersAs : {A X : Type 0} → (A → X) → Result A ArrivalFault → Read X → Type 0
AnswersAs seen answer read =
    MatchResult answer (λ a. read ≡ Ok (seen a)) (λ e. e ≢ Memory → read ≡ Err e)

-- the slots of soft or firm work, in the third field
abbrev pub slots_of : ℕ → List ℕ → Read ℕ
slots_of row field = ok_or (number_between 1 OFFER_LIMIT field) (BadNumber row 3)

-- soft work of so many slots
abbrev pub soft_of : ℕ → List ℕ → Read Event
soft_of row slots = do
  n ← slots_of row slots
  Ok (SoftEvent n)

-- the early end of the job of a key
abbrev pub done_of : TaskSet → ℕ → List ℕ → Read Event
done_of set row text = do
  key ← ok_or (key_of_text set text) (BadKey row)
  Ok (DoneEvent key)

-- a firm task of so many slots, due within so many from now
abbrev pub firm_of : ℕ → List ℕ × List ℕ → Read Event
firm_of row both = do
  slots ← slots_of row both.0
  within ← ok_or (number_between 0 OFFER_LIMIT both.1) (BadNumber row 4)
  Ok (FirmEvent slots within)

-- a job of the sporadic task of a name
abbrev pub sporadic_of : TaskSet → ℕ → List ℕ → Read Event
sporadic_of set row name = do
  index ← ok_or (sporadic_named set.sporadics name) (UnknownSporadic row)
  Ok (SporadicEvent index)

-- the withdrawal of the firm job of a row
abbrev pub withdraw_of : ℕ → List ℕ → Read Event
withdraw_of row text = do
  firm ← ok_or (row_number text) (BadNumber row 3)
  Ok (WithdrawEvent firm)

-- the one field of these
abbrev pub one_field : ℕ → List (List ℕ) → Read (List ℕ)
one_field row (field ∷ []) = Ok field
one_field row fields = Err (BadRow row)

-- the two fields of these
abbrev pub two_fields : ℕ → List (List ℕ) → Read (List ℕ × List ℕ)
two_fields row (first ∷ second ∷ []) = Ok (first, second)
two_fields row fields = Err (BadRow row)

-- the event of a row of this kind, from its fields after the second
abbrev pub event_of : TaskSet → ℕ → Kind → List (List ℕ) → Read Event
event_of set row Soft fields = do
  slots ← one_field row fields
  soft_of row slots
event_of set row Firm fields = do
  both ← two_fields row fields
  firm_of row both
event_of set row Sporadic fields = do
  name ← one_field row fields
  sporadic_of set row name
event_of set row Done fields = do
  text ← one_field row fields
  done_of set row text
event_of set row Withdraw fields = do
  text ← one_field row fields
  withdraw_of row text

-- the slot, where it is not below the one before and not at or past the end
abbrev pub slot_in_turn : ℕ → ℕ → ℕ → ℕ → Read ℕ
slot_in_turn slots row before slot =
    if nat_lt slot before then Err (OutOfOrder row before slot)
    else if nat_le slots slot then Err (PastEnd row slot)
    else Ok slot

-- the slot and the word of a row, where it has two fields or more
abbrev pub first_fields : ℕ → List (List ℕ) → Read (List ℕ × List ℕ)
first_fields row (slot ∷ word ∷ fields) = Ok (slot, word)
first_fields row fields = Err (BadRow row)

-- the number of a row, where there may be so many rows
abbrev pub limited_row : ℕ → Read ℕ
limited_row row = if nat_lt ARRIVAL_LIMIT row then Err TooMany else Ok row

-- the arrival of the row of this number and these fields, where the row before has this slot
abbrev pub arrival_of : TaskSet → ℕ → ℕ → ℕ → List (List ℕ) → Read Arrival
arrival_of set slots number before fields = do
  row ← limited_row number
  first ← first_fields row fields
  told ← ok_or (number_of first.0) (BadNumber row 1)
  kind ← ok_or (kind_of first.1) (UnknownKind row)
  event ← event_of set row kind (drop 2 fields)
  slot ← slot_in_turn slots row before told
  Ok (record { row = row; slot = slot; event = event })

-- the arrivals of these rows, of which the first has this number and the row before it this slot
abbrev pub arrivals_from : TaskSet → ℕ → ℕ → ℕ → List (List (List ℕ)) → Read (List Arrival)
arrivals_from set slots row before [] = Ok []
arrivals_from set slots row before (fields ∷ rows) =
    arrival_of set slots row before fields
    >>= (λ (a : Arrival). arrivals_from set slots (row + 1) a.slot rows
    >>= (λ arrivals. Ok (a ∷ arrivals)))

-- the reading of the bytes of an arrivals file, for so many slots: rows count from 1
abbrev pub reading_of_arrivals : List ℕ → ℕ → TaskSet → Read (List Arrival)
reading_of_arrivals bytes slots set =
    arrivals_from set slots 1 0 (records default_config (strip_bom bytes))
