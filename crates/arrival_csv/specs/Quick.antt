-- Rows of a text that are read in one pass, and what they write.
use Rattle.std.specs.Prelude.{◌≡◌, true, ℕ, ◌-◌, ◌<◌, ◌≤◌, List, [], ◌∷◌, ◌++◌, codes, drop, length, Some, Ok}
use Rattle.std.specs.Char.{is_ascii_digit}
use Rattle.std.specs.List.{list_all, slice_range}
use Rattle.std.specs.Str.Parse.{digits_value}
use Rattle.csv.specs.Machine.{next_record}
use Rattle.csv.specs.Reading.{default_config, records}
use Rattle.csv.specs.declared.parser.State.TheVariants as st
use Rattle.slot_core.specs.declared.events.Arrival.{Arrival}
use Rattle.slot_core.specs.declared.events.Event.{Event}
use Rattle.slot_core.specs.declared.tasks.TaskSet.{TaskSet}
use Rattle.slot_core.specs.Calls.Results.{◌>>=◌}
use Rattle.key_texts.specs.Numbers.{number_between}
use Rattle.key_texts.specs.declared.TheConstants.{DIGIT_LIMIT}
use Rattle.arrival_csv.specs.declared.kinds.Kind.{Kind}
use Rattle.arrival_csv.specs.Kinds.{kind_word}
use Rattle.arrival_csv.specs.Reading.{Read, arrival_of, event_of, limited_row, slot_in_turn}

-- between these places of the text are digits, no more than a number may have, of this value
pub record AreDigitsAt (text : List ℕ) (start value end : ℕ) : Type 0 where
  pub onward : start ≤ end
  pub within : end ≤ length text
  pub few : end - start ≤ DIGIT_LIMIT
  pub digits : list_all is_ascii_digit (slice_range text start end) ≡ true
  pub written : digits_value 10 (slice_range text start end) ≡ value

-- between these places of the text stands the number n, which is from low to high
pub record IsNumberAt (text : List ℕ) (start low high n end : ℕ) : Type 0 where
  pub some : start < end
  pub within : end ≤ length text
  pub written : number_between low high (slice_range text start end) ≡ Some n

-- at this place of the text stands the word of this kind, and a comma before the next place
pub record IsKindAt (text : List ℕ) (start : ℕ) (kind : Kind) (next : ℕ) : Type 0 where
  pub within : next ≤ length text
  pub word : drop start text ≡ kind_word kind ++ codes "," ++ drop next text

-- a field that goes to this place of the text ends there, and another starts at the next place
abbrev pub GoesOn : List ℕ → ℕ → ℕ → Type 0
GoesOn text place next = (next ≤ length text)
    × ((before : List (List ℕ)) (field : List ℕ)
    → next_record default_config st.InField before field (drop place text)
    ≡ next_record default_config st.StartField (before ++ (field ∷ [])) [] (drop next text))

-- a field that goes to this place of the text ends there with its row, and the rest is after it
abbrev pub EndsRow : List ℕ → ℕ → List ℕ → Type 0
EndsRow text place rest = (before : List (List ℕ)) (field : List ℕ)
    → next_record default_config st.InField before field (drop place text)
    ≡ Some (before ++ (field ∷ []), st.StartRecord, rest)

-- the fields from this place on, the last of their row, write this event; the rest is after it
abbrev pub StartsWithEvent : TaskSet → Kind → List ℕ → ℕ → Event → List ℕ → Type 0
StartsWithEvent set kind text start event rest = (fields : List (List ℕ))
    × ((before : List (List ℕ))
    → next_record default_config st.StartField before [] (drop start text)
    ≡ Some (before ++ fields, st.StartRecord, rest))
    × ((row : ℕ) → event_of set row kind fields ≡ Ok event)

-- the arrival of a row that writes this slot and event, after a row of the slot `before`
abbrev pub arrival_in_turn : ℕ → ℕ → ℕ → ℕ → Event → Read Arrival
arrival_in_turn slots number before slot event = do
  row ← limited_row number
  at ← slot_in_turn slots row before slot
  Ok (record { row = row; slot = at; event = event })

-- a row of these fields writes this slot and this event
abbrev pub WritesEvent : TaskSet → List (List ℕ) → ℕ → Event → Type 0
WritesEvent set fields slot event = (slots row before : ℕ)
    → arrival_of set slots row before fields ≡ arrival_in_turn slots row before slot event

-- the first row of the text writes this slot and event, and its other rows are those of the rest
abbrev pub StartsWithRow : TaskSet → List ℕ → ℕ → Event → List ℕ → Type 0
StartsWithRow set text slot event rest = (fields : List (List ℕ))
    × (records default_config text ≡ fields ∷ records default_config rest)
    × WritesEvent set fields slot event
