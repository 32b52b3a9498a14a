-- The texts of faults, and the lines that tell why a run ended.
use Rattle.std.specs.Prelude.{ℕ, List, ◌++◌, codes, decimal}
use Rattle.std.specs.Fmt.{signed_decimal}
use Rattle.slot_core.specs.declared.jobs.Window.{Window}
use Rattle.slot_core.specs.declared.faults.Part.{Part}
use Rattle.slot_core.specs.declared.faults.Part.TheVariants.{Top, Graph as GraphPart, Task as TaskPart, Sporadic as SporadicPart}
use Rattle.slot_core.specs.declared.faults.Field.{Field}
use Rattle.slot_core.specs.declared.faults.Field.TheVariants.{Soft, Graph, Sporadic, Name, Period, Offset, Deadline, Task, Wcet, After, Separation}
use Rattle.slot_core.specs.declared.faults.Place.{Place}
use Rattle.slot_core.specs.declared.faults.TaskFault.{TaskFault}
use Rattle.slot_core.specs.declared.faults.TaskFault.TheVariants.{Memory, NotToml, UnknownKey, Missing, WrongKind, OutOfRange, BadName, Doubled, NoSuchTask, Loop, TooMany, CycleTooLong}
use Rattle.slot_core.specs.Output.Texts.{worded}

-- the key's word in the task file
abbrev pub field_word : Field → List ℕ
field_word Soft = codes "soft"
field_word Graph = codes "graph"
field_word Sporadic = codes "sporadic"
field_word Name = codes "name"
field_word Period = codes "period"
field_word Offset = codes "offset"
field_word Deadline = codes "deadline"
field_word Task = codes "task"
field_word Wcet = codes "wcet"
field_word After = codes "after"
field_word Separation = codes "separation"

-- a table of the task file, by its place
abbrev pub part_text : Part → List ℕ
part_text Top = codes "top"
part_text (GraphPart g) = worded (codes "graph") g
part_text (TaskPart g t) = worded (codes "graph") g ++ codes " " ++ worded (codes "task") t
part_text (SporadicPart s) = worded (codes "sporadic") s

-- a table and a key of it
abbrev pub place_text : Place → List ℕ
place_text place = part_text place.part ++ codes " " ++ field_word place.field

-- what is wrong with a task file
abbrev pub task_fault_text : TaskFault → List ℕ
task_fault_text Memory = codes "out of memory"
task_fault_text NotToml = codes "not toml"
task_fault_text (UnknownKey part) = codes "unknown key in " ++ part_text part
task_fault_text (Missing place) = codes "missing " ++ place_text place
task_fault_text (WrongKind place) = codes "wrong kind " ++ place_text place
task_fault_text (OutOfRange place value) =
    codes "out of range " ++ place_text place ++ codes " " ++ signed_decimal value
task_fault_text (BadName place) = codes "bad name " ++ place_text place
task_fault_text (Doubled place) = codes "doubled " ++ place_text place
task_fault_text (NoSuchTask place) = codes "no such task " ++ place_text place
task_fault_text (Loop graph task) =
    codes "loop " ++ worded (codes "graph") graph ++ codes " " ++ worded (codes "task") task
task_fault_text (TooMany place count) =
    codes "too many " ++ place_text place ++ codes " " ++ decimal count
task_fault_text (CycleTooLong multiple) = worded (codes "cycle too long") multiple

-- the window that fails
abbrev pub infeasible_text : Window → List ℕ
infeasible_text w = worded (worded (worded (codes "infeasible") w.from) w.until) w.demand
