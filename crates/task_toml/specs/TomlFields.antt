-- What stands at a key of a table of the task file, or the fault there.
use Rattle.std.specs.Prelude.{◌≡◌, ◌≢◌, MatchResult, ℕ, ◌&&◌, ◌||◌, Bool, true, pos, nat_abs, int_le, List, if◌then◌else◌, Option, Some, None, Result, Ok, Err}
use Rattle.toml.specs.Data.{Data, string, integer, Members, no_members, member, get_member}
use Rattle.slot_core.specs.declared.faults.Part.{Part}
use Rattle.slot_core.specs.declared.faults.Part.TheVariants.{Top, Graph as GraphPart, Task as TaskPart, Sporadic as SporadicPart}
use Rattle.slot_core.specs.declared.faults.Field.{Field}
use Rattle.slot_core.specs.declared.faults.Field.TheVariants.{Soft, Graph, Sporadic, Name, Period, Offset, Deadline, Task, Wcet, After, Separation}
use Rattle.slot_core.specs.declared.faults.Place.{Place}
use Rattle.slot_core.specs.declared.faults.TaskFault.{TaskFault}
use Rattle.slot_core.specs.declared.faults.TaskFault.TheVariants.{Memory, UnknownKey, Missing, WrongKind, OutOfRange, BadName}
use Rattle.slot_core.specs.Sets.Names.{is_name}
use Rattle.std.specs.Str.{bytes_eq}
use Rattle.slot_core.specs.Output.FaultTexts.{field_word}

-- a value or the first fault
abbrev pub Read : Type 0 → Type 0
Read X = Result X TaskFault

-- the code's answer is what is read, as `seen` sees it, but that memory may run out
abbrev pub AnswersAs : {A X : Type 0} → (A → X) → Result A TaskFault → Read X → Type 0
AnswersAs seen answer read =
    MatchResult answer (λ a. read ≡ Ok (seen a)) (λ e. e ≢ Memory → read ≡ Err e)

-- the same where the code's value is the one that is read
abbrev pub Answers : {X : Type 0} → Result X TaskFault → Read X → Type 0
Answers = AnswersAs (λ x. x)

-- the key is one that a table of this part knows
abbrev pub knows_key : Part → List ℕ → Bool
knows_key Top key =
    bytes_eq (field_word Soft) key
    || bytes_eq (field_word Graph) key
    || bytes_eq (field_word Sporadic) key
knows_key (GraphPart g) key =
    bytes_eq (field_word Name) key
    || bytes_eq (field_word Period) key
    || bytes_eq (field_word Offset) key
    || bytes_eq (field_word Deadline) key
    || bytes_eq (field_word Task) key
knows_key (TaskPart g t) key =
    bytes_eq (field_word Name) key
    || bytes_eq (field_word Wcet) key
    || bytes_eq (field_word After) key
knows_key (SporadicPart s) key =
    bytes_eq (field_word Name) key
    || bytes_eq (field_word Wcet) key
    || bytes_eq (field_word Separation) key
    || bytes_eq (field_word Deadline) key

-- each key of the table is one that it knows
abbrev pub knows_keys : Part → Members → Bool
knows_keys part no_members = true
knows_keys part (member key value rest) = knows_key part key && knows_keys part rest

-- the table, where it has no unknown key
abbrev pub known_keys : Part → Members → Read Members
known_keys part members = if knows_keys part members then Ok members else Err (UnknownKey part)

-- what stands at a key
abbrev pub at_key : Field → Members → Option Data
at_key field members = get_member (field_word field) members

-- the value, where it is there, else the fault
abbrev pub or_fault : {X : Type 0} → TaskFault → Option X → Read X
or_fault fault None = Err fault
or_fault fault (Some x) = Ok x

-- a number from low to high, and what it is where the key is not there
abbrev pub number_at : Place → ℕ → ℕ → Option ℕ → Option Data → Read ℕ
number_at place low high absent None = or_fault (Missing place) absent
number_at place low high absent (Some (integer z)) =
    if int_le (pos low) z && int_le z (pos high) then Ok (nat_abs z) else Err (OutOfRange place z)
number_at place low high absent (Some _) = Err (WrongKind place)

-- a name
abbrev pub name_at : Place → Option Data → Read (List ℕ)
name_at place None = Err (Missing place)
name_at place (Some (string text)) = if is_name text then Ok text else Err (BadName place)
name_at place (Some _) = Err (WrongKind place)
