-- What slotunits writes, and why a run is refused.
use Rattle.std.specs.Prelude.{◌≡◌, ◌⊎◌, ℕ, ◌<◌, true, ⊤, List, length, Option, Some, IfSome, Ok, Err}
use Rattle.std.specs.Io.KnownBytes.{Appends}
use Rattle.slot_core.specs.declared.TheConstants.{ARRIVALS_FILE_LIMIT, READ_LIMIT, TASK_FILE_LIMIT}
use Rattle.slot_core.specs.declared.tasks.TaskSet.{TaskSet}
use Rattle.slot_core.specs.Calls.Counts.{Rose}
use Rattle.slot_core.specs.Sets.Faults.{set_fault}
use Rattle.slot_core.specs.Sets.Ranges.{is_sound}
use Rattle.slot_io.specs.Files.{Held, first_bytes}
use Rattle.slot_io.specs.Sinks.{AppendsPart}
use Rattle.command_line.specs.declared.status.Status.{Status}
use Rattle.task_toml.specs.Reading.{reading_of_tasks}
use Rattle.clock_units.specs.declared.sets.PhysicalSet.{PhysicalSet}
use Rattle.clock_units.specs.Derived.{derived_set}
use Rattle.unit_toml.specs.Reading.{reading_of_units}
use Rattle.slot_lengths.specs.Lines.{IsLengthsText}
use Rattle.timed_arrivals.specs.declared.form.Form.{Form}
use Rattle.timed_arrivals.specs.declared.form.Form.TheVariants.{Arrivals, Trace}
use Rattle.timed_arrivals.specs.Texts.{timed_text}
use Rattle.units_run.specs.declared.questions.Question.{Question}
use Rattle.units_run.specs.declared.questions.Question.TheVariants.{Tasks, Check, Arrivals as ArrivalsAsked, Trace as TraceAsked}
use Rattle.units_run.specs.declared.refusal.UnitsRefusal.{UnitsRefusal}
use Rattle.units_run.specs.declared.refusal.UnitsRefusal.TheVariants.{Unreadable, TooLarge, UnreadableRows, TooLargeRows, BadRows, BadUnits, NoSlots, BadTasks, ReadsOtherwise, WriteFault, Memory}

-- the bytes are the first ones of the file, up to a limit, where contracts see what the files hold
abbrev pub IsReadTo : ℕ → Option Held → List ℕ → List ℕ → Type 0
IsReadTo limit held name bytes =
    IfSome held (λ files. first_bytes files name limit ≡ Some bytes)

-- the same of a file of units
abbrev pub IsRead : Option Held → List ℕ → List ℕ → Type 0
IsRead = IsReadTo TASK_FILE_LIMIT

-- most bytes of arrivals with times, and of a trace
abbrev pub rows_limit : Form → ℕ
rows_limit Arrivals = ARRIVALS_FILE_LIMIT
rows_limit Trace = READ_LIMIT

-- the same of arrivals with times, or of a trace
abbrev pub AreRows : Form → Option Held → List ℕ → List ℕ → Type 0
AreRows form = IsReadTo (rows_limit form)

-- the text is a task file of the set in slots of the set in physical time that the bytes write
pub record IsText (bytes text : List ℕ) : Type 0 where
  pub physical : PhysicalSet
  pub set : TaskSet
  pub units : reading_of_units bytes ≡ Ok physical
  pub slots : derived_set physical ≡ Ok set
  pub sound : is_sound set ≡ true
  pub tasks : reading_of_tasks text ≡ Ok set

-- the text has a line for each length of a slot, from one to another, for the set in physical time
-- that the bytes write
pub record AreLengths (from to : ℕ) (bytes text : List ℕ) : Type 0 where
  pub physical : PhysicalSet
  pub units : reading_of_units bytes ≡ Ok physical
  pub lengths : IsLengthsText from to physical text

-- the text is the arrivals file of the rows with times that the file of this name holds, or the
-- trace with times of the trace, for the set in physical time that the bytes write, which has a set
-- in slots
pub record AreTimed
    (form : Form) (held : Option Held) (name bytes text : List ℕ) : Type 0 where
  pub physical : PhysicalSet
  pub set : TaskSet
  pub rows : List ℕ
  pub units : reading_of_units bytes ≡ Ok physical
  pub slots : derived_set physical ≡ Ok set
  pub read : AreRows form held name rows
  pub timed : timed_text form physical rows ≡ Ok text

-- the text answers the question of the bytes, where the other file has this name: a trace is that of
-- standard input
abbrev pub IsAnswer :
    Question → Option Held → Option Held → List ℕ → List ℕ → List ℕ → Type 0
IsAnswer Tasks held input other bytes text = IsText bytes text
IsAnswer (Check from to) held input other bytes text = AreLengths from to bytes text
IsAnswer ArrivalsAsked held input other bytes text = AreTimed Arrivals held other bytes text
IsAnswer TraceAsked held input other bytes text = AreTimed Trace input other bytes text

-- the text answers the question of the file of this name
pub record IsDue
    (question : Question) (held input : Option Held) (name other text : List ℕ) : Type 0 where
  pub bytes : List ℕ
  pub read : IsRead held name bytes
  pub is_answer : IsAnswer question held input other bytes text

-- known bytes grow by such a text
pub record IsWritten
    (question : Question) (held input : Option Held) (name other : List ℕ)
    (before after : Option (List ℕ)) : Type 0 where
  pub text : List ℕ
  pub due : IsDue question held input name other text
  pub written : Appends before after text

-- known bytes grow by a part of such a text, from its front
pub record IsPartWritten
    (question : Question) (held input : Option Held) (name other : List ℕ)
    (before after : Option (List ℕ)) : Type 0 where
  pub text : List ℕ
  pub due : IsDue question held input name other text
  pub written : AppendsPart before after text

-- why a set in slots has no text: its first fault, or the text that was made is read otherwise, of
-- which no clause says when
abbrev pub IsSetRefusal : TaskSet → UnitsRefusal → Type 0
IsSetRefusal set (BadTasks fault) = set_fault set ≡ Some fault
IsSetRefusal set ReadsOtherwise = ⊤
IsSetRefusal set Memory = ⊤
IsSetRefusal set _ = ⊥

-- why a set in physical time has none: it has no set in slots, or that has no text
abbrev pub IsUnitsRefusal : PhysicalSet → UnitsRefusal → Type 0
IsUnitsRefusal physical (NoSlots fault) = derived_set physical ≡ Err fault
IsUnitsRefusal physical (BadTasks fault) =
    (set : TaskSet) × (derived_set physical ≡ Ok set) × IsSetRefusal set (BadTasks fault)
IsUnitsRefusal physical ReadsOtherwise =
    (set : TaskSet) × (derived_set physical ≡ Ok set) × IsSetRefusal set ReadsOtherwise
IsUnitsRefusal physical Memory = ⊤
IsUnitsRefusal physical _ = ⊥

-- why bytes have none: they write no set in physical time, or that has none
abbrev pub IsTextRefusal : List ℕ → UnitsRefusal → Type 0
IsTextRefusal bytes (BadUnits fault) = reading_of_units bytes ≡ Err fault
IsTextRefusal bytes (NoSlots fault) =
    (physical : PhysicalSet) × (reading_of_units bytes ≡ Ok physical)
    × IsUnitsRefusal physical (NoSlots fault)
IsTextRefusal bytes (BadTasks fault) =
    (physical : PhysicalSet) × (reading_of_units bytes ≡ Ok physical)
    × IsUnitsRefusal physical (BadTasks fault)
IsTextRefusal bytes ReadsOtherwise =
    (physical : PhysicalSet) × (reading_of_units bytes ≡ Ok physical)
    × IsUnitsRefusal physical ReadsOtherwise
IsTextRefusal bytes Memory = ⊤
IsTextRefusal bytes _ = ⊥

-- why they have no lengths of a slot: they write no set in physical time
abbrev pub IsReadingRefusal : List ℕ → UnitsRefusal → Type 0
IsReadingRefusal bytes (BadUnits fault) = reading_of_units bytes ≡ Err fault
IsReadingRefusal bytes Memory = ⊤
IsReadingRefusal bytes _ = ⊥

-- why a set in physical time has no set in slots
abbrev pub IsSlotsRefusal : PhysicalSet → UnitsRefusal → Type 0
IsSlotsRefusal physical (NoSlots fault) = derived_set physical ≡ Err fault
IsSlotsRefusal physical Memory = ⊤
IsSlotsRefusal physical _ = ⊥

-- what contracts see of files in a run: what they hold, the name of the last read that failed, that
-- of the last one that gave bytes, with how many, and the counts of faults before and after
pub record FilesSeen : Type 0 where
  pub held : Option Held
  pub blamed : Option (List ℕ)
  pub given : Option (List ℕ × ℕ)
  pub before : ℕ
  pub after : ℕ

-- the same, of files that tell these things of themselves
abbrev pub seen :
    {F : Type 0} → (F → Option Held) → (F → Option (List ℕ)) → (F → Option (List ℕ × ℕ)) → (F → ℕ)
    → F → F → FilesSeen
seen held blamed given faults before after =
    record {
      held = held before;
      blamed = blamed after;
      given = given after;
      before = faults before;
      after = faults after;
    }

-- a file is not read: its name is blamed, and a fault was counted
pub record IsUnread (name : List ℕ) (files : FilesSeen) : Type 0 where
  pub blamed : files.blamed ≡ Some name
  pub counted : Rose files.before files.after

-- a file has more bytes than its limit: so many were given under its name, and where contracts see
-- what the files hold it has more
pub record IsTooLong (limit : ℕ) (name : List ℕ) (files : FilesSeen) : Type 0 where
  pub bytes : List ℕ
  pub given : files.given ≡ Some (name, length bytes)
  pub read : IsReadTo limit files.held name bytes
  pub long : limit < length bytes

-- why a file of arrivals, or a trace, is not read
abbrev pub IsRowsRefusal : Form → List ℕ → FilesSeen → UnitsRefusal → Type 0
IsRowsRefusal form name files UnreadableRows = IsUnread name files
IsRowsRefusal form name files (TooLargeRows told) =
    (told ≡ form) × IsTooLong (rows_limit form) name files
IsRowsRefusal form name files Memory = ⊤
IsRowsRefusal form name files _ = ⊥

-- why its rows or lines are refused
abbrev pub IsRowRefusal : Form → PhysicalSet → List ℕ → UnitsRefusal → Type 0
IsRowRefusal form physical rows (BadRows told fault) =
    (told ≡ form) × (timed_text form physical rows ≡ Err fault)
IsRowRefusal form physical rows Memory = ⊤
IsRowRefusal form physical rows _ = ⊥

-- why they have no rows with the file of this name: they write no set in physical time, that has no
-- set in slots, the file is not read, or a row or a line of it has a fault
abbrev pub IsTimedRefusal : Form → List ℕ → List ℕ → FilesSeen → UnitsRefusal → Type 0
IsTimedRefusal form name bytes files (BadUnits fault) = reading_of_units bytes ≡ Err fault
IsTimedRefusal form name bytes files (NoSlots fault) =
    (physical : PhysicalSet) × (reading_of_units bytes ≡ Ok physical)
    × (derived_set physical ≡ Err fault)
IsTimedRefusal form name bytes files UnreadableRows = IsUnread name files
IsTimedRefusal form name bytes files (TooLargeRows told) =
    (told ≡ form) × IsTooLong (rows_limit form) name files
IsTimedRefusal form name bytes files (BadRows told fault) =
    (physical : PhysicalSet) × (reading_of_units bytes ≡ Ok physical)
    × ((rows : List ℕ) × AreRows form files.held name rows
    × IsRowRefusal form physical rows (BadRows told fault))
IsTimedRefusal form name bytes files Memory = ⊤
IsTimedRefusal form name bytes files _ = ⊥

-- why they have no answer to the question, over the files and standard input
abbrev pub IsAnswerRefusal :
    Question → List ℕ → List ℕ → FilesSeen → FilesSeen → UnitsRefusal → Type 0
IsAnswerRefusal Tasks other bytes files input e = IsTextRefusal bytes e
IsAnswerRefusal (Check from to) other bytes files input e = IsReadingRefusal bytes e
IsAnswerRefusal ArrivalsAsked other bytes files input e =
    IsTimedRefusal Arrivals other bytes files e
IsAnswerRefusal TraceAsked other bytes files input e = IsTimedRefusal Trace other bytes input e

-- why a file of units is not read
abbrev pub IsFileRefusal : List ℕ → FilesSeen → UnitsRefusal → Type 0
IsFileRefusal name files Unreadable = IsUnread name files
IsFileRefusal name files TooLarge = IsTooLong TASK_FILE_LIMIT name files
IsFileRefusal name files Memory = ⊤
IsFileRefusal name files _ = ⊥

-- why there is no answer of the file of this name: it is not read, or its bytes have none
abbrev pub IsDueRefusal :
    Question → List ℕ → List ℕ → FilesSeen → FilesSeen → UnitsRefusal → Type 0
IsDueRefusal question name other files input e =
    IsFileRefusal name files e
    ⊎ ((bytes : List ℕ) × IsRead files.held name bytes
    × IsAnswerRefusal question other bytes files input e)

-- why a run is refused, over its files, standard input, and the counts of faults of the output
abbrev pub IsRefused :
    Question → List ℕ → List ℕ → FilesSeen → FilesSeen → ℕ × ℕ → UnitsRefusal → Type 0
IsRefused question name other files input of_output WriteFault = Rose of_output.0 of_output.1
IsRefused question name other files input of_output e =
    IsDueRefusal question name other files input e

-- the status of a refusal
abbrev pub refusal_status : UnitsRefusal → Status
refusal_status Unreadable = Status.FileFault
refusal_status TooLarge = Status.TooLarge
refusal_status UnreadableRows = Status.FileFault
refusal_status (TooLargeRows form) = Status.TooLarge
refusal_status (BadRows Arrivals fault) = Status.BadArrivals
refusal_status (BadRows Trace fault) = Status.NotVerified
refusal_status (BadUnits fault) = Status.BadTasks
refusal_status (NoSlots fault) = Status.BadTasks
refusal_status (BadTasks fault) = Status.BadTasks
refusal_status ReadsOtherwise = Status.BadTasks
refusal_status WriteFault = Status.WriteFault
refusal_status Memory = Status.Memory
