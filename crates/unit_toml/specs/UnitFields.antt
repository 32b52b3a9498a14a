-- What stands at a key of a table of a file of units, or the fault there.
use Rattle.std.specs.Prelude.{◌≡◌, ◌≢◌, MatchResult, ℕ, ◌==◌, ◌&&◌, ◌||◌, Bool, true, false, pos, nat_abs, int_le, nat_lt, List, codes, if◌then◌else◌, Option, Some, None, Result, Ok, Err}
use Rattle.std.specs.Str.{bytes_eq}
use Rattle.toml.specs.Data.{Data, string, integer, Members, no_members, member, get_member}
use Rattle.slot_core.specs.declared.faults.Part.{Part}
use Rattle.slot_core.specs.declared.faults.Part.TheVariants.{Top, Graph as GraphPart, Task as TaskPart, Sporadic as SporadicPart}
use Rattle.slot_core.specs.Sets.Names.{is_name}
use Rattle.slot_core.specs.Calls.Results.{◌>>=◌}
use Rattle.time_texts.specs.Reading.{time_of_text}
use Rattle.unit_toml.specs.declared.keys.UnitKey.{UnitKey}
use Rattle.unit_toml.specs.declared.keys.UnitKey.TheVariants.{Slot, Overhead, Soft, Graph, Sporadic, Name, Period, Offset, Deadline, Task, Wcet, After, Separation, Plan, Arrives}
use Rattle.unit_toml.specs.declared.keys.UnitPlace.{UnitPlace}
use Rattle.unit_toml.specs.declared.faults.UnitsFault.{UnitsFault}
use Rattle.unit_toml.specs.declared.faults.UnitsFault.TheVariants.{Memory, UnknownKey, Missing, WrongKind, OutOfRange, BadName, BadTime, BadWord, TooLong}
use Rattle.unit_toml.specs.FaultTexts.{key_word}

-- a value or the first fault
abbrev pub Read : Type 0 → Type 0
Read X = Result X UnitsFault

-- the code's answer is what is read, as `seen` sees it, but that memory may run out
abbrev pub AnswersAs : {A X : Type 0} → (A → X) → Result A UnitsFault → Read X → Type 0
AnswersAs seen answer read =
    MatchResult answer (λ a. read ≡ Ok (seen a)) (λ e. e ≢ Memory → read ≡ Err e)

-- the same where the code's value is the one that is read
abbrev pub Answers : {X : Type 0} → Result X UnitsFault → Read X → Type 0
Answers = AnswersAs (λ x. x)

-- the key is one that a table of this part knows
abbrev pub knows_key : Part → List ℕ → Bool
knows_key Top key =
    bytes_eq (key_word Slot) key
    || bytes_eq (key_word Overhead) key
    || bytes_eq (key_word Soft) key
    || bytes_eq (key_word Graph) key
    || bytes_eq (key_word Sporadic) key
knows_key (GraphPart g) key =
    bytes_eq (key_word Name) key
    || bytes_eq (key_word Period) key
    || bytes_eq (key_word Offset) key
    || bytes_eq (key_word Deadline) key
    || bytes_eq (key_word Task) key
knows_key (TaskPart g t) key =
    bytes_eq (key_word Name) key
    || bytes_eq (key_word Wcet) key
    || bytes_eq (key_word After) key
knows_key (SporadicPart s) key =
    bytes_eq (key_word Name) key
    || bytes_eq (key_word Wcet) key
    || bytes_eq (key_word Separation) key
    || bytes_eq (key_word Plan) key
    || bytes_eq (key_word Deadline) key
    || bytes_eq (key_word Arrives) key

-- each key of the table is one that it knows
abbrev pub knows_keys : Part → Members → Bool
knows_keys part no_members = true
knows_keys part (member key value rest) = knows_key part key && knows_keys part rest

-- the table, where it has no unknown key
abbrev pub known_keys : Part → Members → Read Members
known_keys part members = if knows_keys part members then Ok members else Err (UnknownKey part)

-- what stands at a key
abbrev pub at_key : UnitKey → Members → Option Data
at_key key members = get_member (key_word key) members

-- the value, where it is there, else the fault
abbrev pub or_fault : {X : Type 0} → UnitsFault → Option X → Read X
or_fault fault None = Err fault
or_fault fault (Some x) = Ok x

-- a number from low to high, and what it is where the key is not there
abbrev pub number_at : UnitPlace → ℕ → ℕ → ℕ → Option Data → Read ℕ
number_at place low high absent None = Ok absent
number_at place low high absent (Some (integer z)) =
    if int_le (pos low) z && int_le z (pos high) then Ok (nat_abs z) else Err (OutOfRange place z)
number_at place low high absent (Some _) = Err (WrongKind place)

-- a time, and what it is where the key is not there
abbrev pub time_at : UnitPlace → Option ℕ → Option Data → Read ℕ
time_at place absent None = or_fault (Missing place) absent
time_at place absent (Some (string text)) = or_fault (BadTime place) (time_of_text text)
time_at place absent (Some _) = Err (WrongKind place)

-- a time above 0
abbrev pub some_time_at : UnitPlace → Option Data → Read ℕ
some_time_at place found = do
  time ← time_at place None found
  if time == 0 then Err (OutOfRange place (pos 0)) else Ok time

-- a time that is no longer than another, which it is where the key is not there
abbrev pub time_within : UnitPlace → ℕ → Option Data → Read ℕ
time_within place most found = do
  time ← time_at place (Some most) found
  if nat_lt most time then Err (TooLong place) else Ok time

-- a name
abbrev pub name_at : UnitPlace → Option Data → Read (List ℕ)
name_at place None = Err (Missing place)
name_at place (Some (string text)) = if is_name text then Ok text else Err (BadName place)
name_at place (Some _) = Err (WrongKind place)

-- whether arrivals come at boundaries alone, as the word says
abbrev pub boundaries_of : List ℕ → Option Bool
boundaries_of word =
    if bytes_eq word (codes "anywhere") then Some false
    else if bytes_eq word (codes "boundaries") then Some true
    else None

-- the same of what stands at a key: where the key is not there, they do not
abbrev pub boundaries_at : UnitPlace → Option Data → Read Bool
boundaries_at place None = Ok false
boundaries_at place (Some (string text)) = or_fault (BadWord place) (boundaries_of text)
boundaries_at place (Some _) = Err (WrongKind place)
