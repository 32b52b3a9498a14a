-- The lines that slotunits tells on standard error, and its help.
use Rattle.std.specs.Prelude.{ℕ, List, ◌++◌, ◌∷◌, [], codes}
use Rattle.slot_core.specs.declared.TheConstants.{TASK_FILE_LIMIT}
use Rattle.slot_core.specs.Output.FaultTexts.{task_fault_text}
use Rattle.slot_core.specs.Output.Texts.{worded}
use Rattle.clock_units.specs.FaultTexts.{unit_fault_text}
use Rattle.timed_arrivals.specs.FaultTexts.{timed_fault_text}
use Rattle.timed_arrivals.specs.declared.form.Form.TheVariants.{Arrivals, Trace}
use Rattle.units_run.specs.Runs.{rows_limit}
use Rattle.unit_toml.specs.FaultTexts.{units_fault_text}
use Rattle.units_run.specs.declared.refusal.UnitsRefusal.{UnitsRefusal}
use Rattle.units_run.specs.declared.refusal.UnitsRefusal.TheVariants.{Unreadable, TooLarge, UnreadableRows, TooLargeRows, BadRows, BadUnits, NoSlots, BadTasks, ReadsOtherwise, WriteFault, Memory}

-- why a run is refused, of files of these names
abbrev pub reason_of : List ℕ → List ℕ → UnitsRefusal → List ℕ
reason_of name other Unreadable = codes "cannot read " ++ name
reason_of name other TooLarge = codes "too large " ++ worded name TASK_FILE_LIMIT
reason_of name other UnreadableRows = codes "cannot read " ++ other
reason_of name other (TooLargeRows form) = codes "too large " ++ worded other (rows_limit form)
reason_of name other (BadRows Arrivals fault) = codes "arrivals " ++ timed_fault_text fault
reason_of name other (BadRows Trace fault) = codes "trace " ++ timed_fault_text fault
reason_of name other (BadUnits fault) = codes "units " ++ units_fault_text fault
reason_of name other (NoSlots fault) = codes "units " ++ unit_fault_text fault
reason_of name other (BadTasks fault) = codes "tasks " ++ task_fault_text fault
reason_of name other ReadsOtherwise = codes "tasks read otherwise"
reason_of name other WriteFault = codes "cannot write"
reason_of name other Memory = codes "out of memory"

-- the line of a refusal
abbrev pub refusal_line : List ℕ → List ℕ → UnitsRefusal → List ℕ
refusal_line name other refusal = reason_of name other refusal ++ 10 ∷ []

-- the usage line
abbrev pub units_usage : List ℕ
units_usage = codes "usage: slotunits tasks U | check U [FROM TO] | arrivals U A | trace U\n"

-- the help
abbrev pub units_help : List ℕ
units_help =
    codes "usage: slotunits tasks U | check U [FROM TO] | arrivals U A | trace U\n"
    ++ codes "       slotunits --help\n"
    ++ codes "       slotunits --version\n"
    ++ codes "\n"
    ++ codes "Turns times into slots. Worst cases round up, separations down, and windows\n"
    ++ codes "inwards.\n"
    ++ codes "\n"
    ++ codes "words:\n"
    ++ codes "  tasks U    the task file in slots that stands for U\n"
    ++ codes "  check U [FROM TO]\n"
    ++ codes "             a line for each length of a slot, from FROM to TO, that divides all\n"
    ++ codes "             periods: first those with which U fits, the least load first\n"
    ++ codes "  arrivals U A\n"
    ++ codes "             the arrivals file in slots that stands for A\n"
    ++ codes "  trace U    a trace from standard input, with times in front of its lines\n"
    ++ codes "\n"
    ++ codes "  U          a file of units (TOML), at most 1048576 bytes\n"
    ++ codes "  FROM, TO   times, as 100us and 1ms\n"
    ++ codes "  A          an arrivals file with times (CSV), at most 4194304 bytes\n"
    ++ codes "\n"
    ++ codes "statuses:\n"
    ++ codes "  0   done\n"
    ++ codes "  1   the words are none of these forms\n"
    ++ codes "  2   a file or standard input cannot be read\n"
    ++ codes "  3   a file has too many bytes\n"
    ++ codes "  4   U has a fault; of tasks, its set in slots has\n"
    ++ codes "  6   A has a fault\n"
    ++ codes "  7   standard output takes no more\n"
    ++ codes "  8   memory ran out\n"
    ++ codes "  10  a line of standard input has a fault\n"
