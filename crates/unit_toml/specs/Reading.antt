-- The reading of a file of units: the set in physical time that its bytes write, or the first fault
-- of them.
use Rattle.std.specs.Prelude.{ℕ, ◌+◌, ◌-◌, ◌==◌, List, [], ◌∷◌, length, map, min, nat_lt, if◌then◌else◌, Option, Some, None, Ok, Err, option_map}
use Rattle.std.specs.Str.{bytes_eq, is_utf8}
use Rattle.std.specs.List.{position_or_len}
use Rattle.toml.specs.Data.{Data, string, array, table, Items, no_items, item, Members}
use Rattle.toml.specs.Parse.{parse_document}
use Rattle.slot_core.specs.Calls.Results.{◌>>=◌}
use Rattle.slot_core.specs.declared.TheConstants.{GRAPH_LIMIT, TASK_LIMIT, AFTER_LIMIT, SPORADIC_LIMIT, SOFT_LIMIT, SOFT_DEFAULT, NUMBER_LIMIT}
use Rattle.slot_core.specs.declared.faults.Part.{Part}
use Rattle.slot_core.specs.declared.faults.Part.TheVariants.{Top, Graph as GraphPart, Task as TaskPart, Sporadic as SporadicPart}
use Rattle.clock_units.specs.declared.sets.PhysicalTask.{PhysicalTask}
use Rattle.clock_units.specs.declared.sets.PhysicalGraph.{PhysicalGraph}
use Rattle.clock_units.specs.declared.sets.PhysicalSporadic.{PhysicalSporadic}
use Rattle.clock_units.specs.declared.sets.PhysicalSet.{PhysicalSet}
use Rattle.unit_toml.specs.declared.keys.UnitKey.{UnitKey}
use Rattle.unit_toml.specs.declared.keys.UnitKey.TheVariants.{Slot, Overhead, Soft, Graph as GraphKey, Sporadic, Name, Period, Offset, Deadline, Task as TaskKey, Wcet, After, Separation, Plan, Arrives}
use Rattle.unit_toml.specs.declared.keys.UnitPlace.{UnitPlace}
use Rattle.unit_toml.specs.declared.faults.UnitsFault.TheVariants.{NotToml, Missing, WrongKind, TooMany}
use Rattle.unit_toml.specs.UnitFields.{Read, or_fault, known_keys, at_key, number_at, some_time_at, time_at, time_within, name_at, boundaries_at}

-- a place
abbrev pub place_at : Part → UnitKey → UnitPlace
place_at part key = record { part = part; key = key }

-- the tables of an array; none where an item is of another kind
abbrev pub all_tables : Items → Option (List Members)
all_tables no_items = Some []
all_tables (item (table members) rest) = option_map (λ ts. members ∷ ts) (all_tables rest)
all_tables (item _ rest) = None

-- the texts of an array; none where an item is of another kind
abbrev pub all_texts : Items → Option (List (List ℕ))
all_texts no_items = Some []
all_texts (item (string text) rest) = option_map (λ ts. text ∷ ts) (all_texts rest)
all_texts (item _ rest) = None

-- the items, where there are no more than the limit; a count past 32 bits is told as the last
-- number of them
abbrev pub at_most : {X : Type 0} → UnitPlace → ℕ → List X → Read (List X)
at_most place limit xs =
    if nat_lt limit (length xs) then Err (TooMany place (min (length xs) NUMBER_LIMIT))
    else Ok xs

-- the items of the array at a key, none where the key is not there
abbrev pub items_at : UnitPlace → Option Data → Read Items
items_at place None = Ok no_items
items_at place (Some (array items)) = Ok items
items_at place (Some _) = Err (WrongKind place)

-- an array of at most `limit` tables, empty where the key is not there
abbrev pub tables_at : UnitPlace → ℕ → Option Data → Read (List Members)
tables_at place limit found = do
  items ← items_at place found
  tables ← or_fault (WrongKind place) (all_tables items)
  at_most place limit tables

-- an array of at most `limit` texts, empty where the key is not there
abbrev pub texts_at : UnitPlace → ℕ → Option Data → Read (List (List ℕ))
texts_at place limit found = do
  items ← items_at place found
  texts ← or_fault (WrongKind place) (all_texts items)
  at_most place limit texts

-- an array of 1 to `limit` tables
abbrev pub some_tables_at : UnitPlace → ℕ → Option Data → Read (List Members)
some_tables_at place limit found = do
  tables ← tables_at place limit found
  if length tables == 0 then Err (Missing place) else Ok tables

-- each table in order, with its place
abbrev pub each : {X : Type 0} → (ℕ → Members → Read X) → ℕ → List Members → Read (List X)
each f n [] = Ok []
each f n (t ∷ ts) = f n t >>= (λ x. each f (n + 1) ts >>= (λ xs. Ok (x ∷ xs)))

-- a task whose `after` entries are still names
pub record NamedTask : Type 0 where
  pub name : List ℕ
  pub wcet : ℕ
  pub after : List (List ℕ)

-- a task of a graph: its name, its worst case, and the names that it comes after
abbrev pub task_of : ℕ → ℕ → Members → Read NamedTask
task_of g t members = do
  known ← known_keys (TaskPart g t) members
  name ← name_at (place_at (TaskPart g t) Name) (at_key Name known)
  wcet ← time_at (place_at (TaskPart g t) Wcet) None (at_key Wcet known)
  after ← texts_at (place_at (TaskPart g t) After) AFTER_LIMIT (at_key After known)
  Ok (record { name = name; wcet = wcet; after = after })

-- the place of the first task of this name, or the number of tasks where there is none
abbrev pub place_of_name : List NamedTask → List ℕ → ℕ
place_of_name tasks name = position_or_len (λ (t : NamedTask). bytes_eq t.name name) tasks

-- the task with the places of these names among the graph's tasks
abbrev pub with_indexes : List NamedTask → NamedTask → PhysicalTask
with_indexes tasks t =
    record { name = t.name; wcet = t.wcet; after = map (place_of_name tasks) t.after }

-- a graph: its name, its times, and its tasks; without a deadline it is due at the period's end
abbrev pub graph_of : ℕ → Members → Read PhysicalGraph
graph_of g members = do
  known ← known_keys (GraphPart g) members
  name ← name_at (place_at (GraphPart g) Name) (at_key Name known)
  period ← time_at (place_at (GraphPart g) Period) None (at_key Period known)
  offset ← time_at (place_at (GraphPart g) Offset) (Some 0) (at_key Offset known)
  deadline ←
      time_at (place_at (GraphPart g) Deadline) (Some (period - offset)) (at_key Deadline known)
  tables ← some_tables_at (place_at (GraphPart g) TaskKey) TASK_LIMIT (at_key TaskKey known)
  tasks ← each (task_of g) 0 tables
  Ok (record {
    name = name;
    period = period;
    offset = offset;
    deadline = deadline;
    tasks = map (with_indexes tasks) tasks;
  })

-- a sporadic task: its name and its times; without a plan and a deadline, both are the separation
abbrev pub sporadic_of : ℕ → Members → Read PhysicalSporadic
sporadic_of s members = do
  known ← known_keys (SporadicPart s) members
  name ← name_at (place_at (SporadicPart s) Name) (at_key Name known)
  wcet ← time_at (place_at (SporadicPart s) Wcet) None (at_key Wcet known)
  separation ← time_at (place_at (SporadicPart s) Separation) None (at_key Separation known)
  planned ← time_within (place_at (SporadicPart s) Plan) separation (at_key Plan known)
  deadline ←
      time_at (place_at (SporadicPart s) Deadline) (Some separation) (at_key Deadline known)
  at_boundaries ← boundaries_at (place_at (SporadicPart s) Arrives) (at_key Arrives known)
  Ok (record {
    name = name;
    wcet = wcet;
    separation = separation;
    planned = planned;
    deadline = deadline;
    at_boundaries = at_boundaries;
  })

-- the graphs of the whole table
abbrev pub graphs_at : Members → Read (List PhysicalGraph)
graphs_at members = do
  tables ← some_tables_at (place_at Top GraphKey) GRAPH_LIMIT (at_key GraphKey members)
  each graph_of 0 tables

-- the sporadic tasks of the whole table
abbrev pub sporadics_at : Members → Read (List PhysicalSporadic)
sporadics_at members = do
  tables ← tables_at (place_at Top Sporadic) SPORADIC_LIMIT (at_key Sporadic members)
  each sporadic_of 0 tables

-- the set of the whole table
abbrev pub shaped_set : Members → Read PhysicalSet
shaped_set members = do
  known ← known_keys Top members
  slot ← some_time_at (place_at Top Slot) (at_key Slot known)
  overhead ← time_at (place_at Top Overhead) (Some 0) (at_key Overhead known)
  soft ← number_at (place_at Top Soft) 1 SOFT_LIMIT SOFT_DEFAULT (at_key Soft known)
  graphs ← graphs_at known
  sporadics ← sporadics_at known
  Ok (record {
    slot = slot;
    overhead = overhead;
    soft_limit = soft;
    graphs = graphs;
    sporadics = sporadics;
  })

-- the top table of the bytes
abbrev pub document_of : List ℕ → Read Members
document_of bytes = if is_utf8 bytes then or_fault NotToml (parse_document bytes) else Err NotToml

-- the reading of the bytes of a file of units
abbrev pub reading_of_units : List ℕ → Read PhysicalSet
reading_of_units bytes = document_of bytes >>= shaped_set
