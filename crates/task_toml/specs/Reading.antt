-- The reading of a task file: the task set that its bytes write, or the first fault of them.
use Rattle.std.specs.Prelude.{ℕ, ◌+◌, ◌-◌, ◌==◌, List, [], ◌∷◌, length, map, min, nat_lt, if◌then◌else◌, Option, Some, None, Ok, Err, option_map}
use Rattle.std.specs.Option.{option_map_or}
use Rattle.std.specs.Str.{is_utf8}
use Rattle.std.specs.List.{position_or_len}
use Rattle.toml.specs.Data.{Data, string, array, table, Items, no_items, item, Members}
use Rattle.toml.specs.Parse.{parse_document}
use Rattle.slot_core.specs.Calls.Results.{◌>>=◌}
use Rattle.slot_core.specs.declared.TheConstants.{GRAPH_LIMIT, TASK_LIMIT, AFTER_LIMIT, SPORADIC_LIMIT, SLOT_LIMIT, SOFT_LIMIT, SOFT_DEFAULT, NUMBER_LIMIT}
use Rattle.slot_core.specs.declared.tasks.Task.{Task}
use Rattle.slot_core.specs.declared.tasks.Graph.{Graph}
use Rattle.slot_core.specs.declared.tasks.Sporadic.{Sporadic as SporadicTask}
use Rattle.slot_core.specs.declared.tasks.TaskSet.{TaskSet}
use Rattle.slot_core.specs.declared.faults.Part.TheVariants.{Top, Graph as GraphPart, Task as TaskPart, Sporadic as SporadicPart}
use Rattle.slot_core.specs.declared.faults.Field.TheVariants.{Soft, Graph as GraphKey, Sporadic, Name, Period, Offset, Deadline, Task as TaskKey, Wcet, After, Separation}
use Rattle.slot_core.specs.declared.faults.Place.{Place}
use Rattle.slot_core.specs.declared.faults.TaskFault.TheVariants.{NotToml, Missing, WrongKind, TooMany}
use Rattle.std.specs.Str.{bytes_eq}
use Rattle.slot_core.specs.Sets.Faults.{set_fault}
use Rattle.task_toml.specs.TomlFields.{Read, or_fault, known_keys, at_key, number_at, name_at}

-- the tables of an array; none where an item is of another kind
abbrev pub all_tables : Items → Option (List Members)
all_tables no_items = Some []
all_tables (item (table members) rest) = option_map (λ ts. members ∷ ts) (all_tables rest)
all_tables (item _ rest) = None

-- the texts of an array; none where an item is of another kind
abbrev pub all_texts : Items → Option (List (List ℕ))
all_texts no_items = Some []
all_texts (item (string text) rest) = option_map (λ ts. text ∷ ts) (all_texts rest)
all_texts (item _ rest) = None

-- the items, where there are no more than the limit; a count past 32 bits is told as the last
-- number of them
abbrev pub at_most : {X : Type 0} → Place → ℕ → List X → Read (List X)
at_most place limit xs =
    if nat_lt limit (length xs) then Err (TooMany place (min (length xs) NUMBER_LIMIT))
    else Ok xs

-- the items of the array at a key, none where the key is not there
abbrev pub items_at : Place → Option Data → Read Items
items_at place None = Ok no_items
items_at place (Some (array items)) = Ok items
items_at place (Some _) = Err (WrongKind place)

-- an array of at most `limit` tables, empty where the key is not there
abbrev pub tables_at : Place → ℕ → Option Data → Read (List Members)
tables_at place limit found = do
  items ← items_at place found
  tables ← or_fault (WrongKind place) (all_tables items)
  at_most place limit tables

-- an array of at most `limit` texts, empty where the key is not there
abbrev pub texts_at : Place → ℕ → Option Data → Read (List (List ℕ))
texts_at place limit found = do
  items ← items_at place found
  texts ← or_fault (WrongKind place) (all_texts items)
  at_most place limit texts

-- an array of 1 to `limit` tables
abbrev pub some_tables_at : Place → ℕ → Option Data → Read (List Members)
some_tables_at place limit found = do
  tables ← tables_at place limit found
  if length tables == 0 then Err (Missing place) else Ok tables

-- each table in order, with its place
abbrev pub each : {X : Type 0} → (ℕ → Members → Read X) → ℕ → List Members → Read (List X)
each f n [] = Ok []
each f n (t ∷ ts) = f n t >>= (λ x. each f (n + 1) ts >>= (λ xs. Ok (x ∷ xs)))

-- a task whose `after` entries are still names
pub record NamedTask : Type 0 where
  pub name : List ℕ
  pub wcet : ℕ
  pub after : List (List ℕ)

-- a task of a graph: its name, its slots, and the names that it comes after
abbrev pub task_of : ℕ → ℕ → Members → Read NamedTask
task_of g t members = do
  known ← known_keys (TaskPart g t) members
  name ← name_at (record { part = TaskPart g t; field = Name }) (at_key Name known)
  wcet ←
      number_at (record { part = TaskPart g t; field = Wcet }) 1 SLOT_LIMIT None
      (at_key Wcet known)
  after ← texts_at (record { part = TaskPart g t; field = After }) AFTER_LIMIT (at_key After known)
  Ok (record { name = name; wcet = wcet; after = after })

-- the place of the first task of this name, or the number of tasks where there is none
abbrev pub place_of_name : List NamedTask → List ℕ → ℕ
place_of_name tasks name = position_or_len (λ (t : NamedTask). bytes_eq t.name name) tasks

-- the task with the places of these names among the graph's tasks
abbrev pub with_indexes : List NamedTask → NamedTask → Task
with_indexes tasks t =
    record { name = t.name; wcet = t.wcet; after = map (place_of_name tasks) t.after }

-- a graph: its name, its numbers, and its tasks
abbrev pub graph_of : ℕ → Members → Read Graph
graph_of g members = do
  known ← known_keys (GraphPart g) members
  name ← name_at (record { part = GraphPart g; field = Name }) (at_key Name known)
  period ←
      number_at (record { part = GraphPart g; field = Period }) 1 SLOT_LIMIT None
      (at_key Period known)
  offset ←
      number_at (record { part = GraphPart g; field = Offset }) 0 (period - 1) (Some 0)
      (at_key Offset known)
  deadline ←
      number_at (record { part = GraphPart g; field = Deadline })
      1 (period - offset) (Some (period - offset))
      (at_key Deadline known)
  tables ←
      some_tables_at (record { part = GraphPart g; field = TaskKey }) TASK_LIMIT
      (at_key TaskKey known)
  tasks ← each (task_of g) 0 tables
  Ok (record {
    name = name;
    period = period;
    offset = offset;
    deadline = deadline;
    tasks = map (with_indexes tasks) tasks;
  })

-- a sporadic task: its name and its numbers
abbrev pub sporadic_of : ℕ → Members → Read SporadicTask
sporadic_of s members = do
  known ← known_keys (SporadicPart s) members
  name ← name_at (record { part = SporadicPart s; field = Name }) (at_key Name known)
  wcet ←
      number_at (record { part = SporadicPart s; field = Wcet }) 1 SLOT_LIMIT None
      (at_key Wcet known)
  separation ←
      number_at (record { part = SporadicPart s; field = Separation }) 1 SLOT_LIMIT None
      (at_key Separation known)
  deadline ←
      number_at (record { part = SporadicPart s; field = Deadline })
      1 separation (Some separation)
      (at_key Deadline known)
  Ok (record { name = name; wcet = wcet; separation = separation; deadline = deadline })

-- the graphs of the whole table
abbrev pub graphs_at : Members → Read (List Graph)
graphs_at members = do
  tables ←
      some_tables_at (record { part = Top; field = GraphKey }) GRAPH_LIMIT
      (at_key GraphKey members)
  each graph_of 0 tables

-- the sporadic tasks of the whole table
abbrev pub sporadics_at : Members → Read (List SporadicTask)
sporadics_at members = do
  tables ←
      tables_at (record { part = Top; field = Sporadic }) SPORADIC_LIMIT (at_key Sporadic members)
  each sporadic_of 0 tables

-- the task set of the whole table, its shape alone checked
abbrev pub shaped_set : Members → Read TaskSet
shaped_set members = do
  known ← known_keys Top members
  soft ←
      number_at (record { part = Top; field = Soft }) 1 SOFT_LIMIT (Some SOFT_DEFAULT)
      (at_key Soft known)
  graph_tables ←
      some_tables_at (record { part = Top; field = GraphKey }) GRAPH_LIMIT
      (at_key GraphKey known)
  graphs ← each graph_of 0 graph_tables
  sporadic_tables ←
      tables_at (record { part = Top; field = Sporadic }) SPORADIC_LIMIT
      (at_key Sporadic known)
  sporadics ← each sporadic_of 0 sporadic_tables
  Ok (record { soft_limit = soft; graphs = graphs; sporadics = sporadics })

-- the set, where it has no fault beyond its shape
abbrev pub without_fault : TaskSet → Read TaskSet
without_fault set = option_map_or (λ fault. Err fault) (set_fault set) (Ok set)

-- the top table of the bytes
abbrev pub document_of : List ℕ → Read Members
document_of bytes = if is_utf8 bytes then or_fault NotToml (parse_document bytes) else Err NotToml

-- the reading of the bytes of a task file
abbrev pub reading_of_tasks : List ℕ → Read TaskSet
reading_of_tasks bytes = do
  members ← document_of bytes
  set ← shaped_set members
  without_fault set
