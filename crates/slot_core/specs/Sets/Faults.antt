-- The first fault of a task set whose numbers are in range: names, `after` entries, loops, and the
-- cycle.
use Rattle.std.specs.Prelude.{ℕ, ◌+◌, ◌==◌, Bool, List, [], ◌∷◌, length, find, map, Option, Some, None, option_map, nat_le, if◌then◌else◌}
use Rattle.std.specs.Option.{option_or}
use Rattle.std.specs.List.{list_any, range_with_len}
use Rattle.std.specs.Str.{bytes_eq}
use Rattle.slot_core.specs.declared.TheConstants.{SLOT_LIMIT}
use Rattle.slot_core.specs.declared.tasks.Task.{Task}
use Rattle.slot_core.specs.declared.tasks.Graph.{Graph}
use Rattle.slot_core.specs.declared.tasks.Sporadic.{Sporadic}
use Rattle.slot_core.specs.declared.tasks.TaskSet.{TaskSet}
use Rattle.slot_core.specs.declared.faults.Part.{Part}
use Rattle.slot_core.specs.declared.faults.Part.TheVariants.{Graph as GraphPart, Task as TaskPart, Sporadic as SporadicPart}
use Rattle.slot_core.specs.declared.faults.Field.TheVariants.{Name, After}
use Rattle.slot_core.specs.declared.faults.Place.{Place}
use Rattle.slot_core.specs.declared.faults.TaskFault.{TaskFault}
use Rattle.slot_core.specs.declared.faults.TaskFault.TheVariants.{Doubled, NoSuchTask, Loop, CycleTooLong}
use Rattle.slot_core.specs.Offline.Precedence.{is_on_loop}
use Rattle.slot_core.specs.Sets.Cycles.{cycle_lengths, first_multiple_above}

-- the fault, where the test holds
abbrev pub fault_if : Bool → TaskFault → Option TaskFault
fault_if test fault = if test then Some fault else None

-- the first fault that f finds along the list, where it is handed each item with its place
abbrev pub first_fault : {X : Type 0} → (ℕ → X → Option TaskFault) → ℕ → List X → Option TaskFault
first_fault f n [] = None
first_fault f n (x ∷ xs) = option_or (f n x) (first_fault f (n + 1) xs)

-- the first of the names that stands among those before it
abbrev pub names_fault : (ℕ → Part) → List (List ℕ) → ℕ → List (List ℕ) → Option TaskFault
names_fault part earlier n [] = None
names_fault part earlier n (name ∷ names) =
    option_or
    (fault_if (list_any (bytes_eq name) earlier) (Doubled (record { part = part n; field = Name })))
    (names_fault part (name ∷ earlier) (n + 1) names)

-- each graph's own name against those of earlier graphs, then the names of its tasks
abbrev pub graph_names_fault : List (List ℕ) → ℕ → List Graph → Option TaskFault
graph_names_fault earlier g [] = None
graph_names_fault earlier g (graph ∷ graphs) =
    option_or
    (fault_if
    (list_any (bytes_eq graph.name) earlier)
    (Doubled (record { part = GraphPart g; field = Name })))
    (option_or
    (names_fault (TaskPart g) [] 0 (map (λ (t : Task). t.name) graph.tasks))
    (graph_names_fault (graph.name ∷ earlier) (g + 1) graphs))

-- the first entry of an `after` list that names no task of the graph, or stands among those before
-- it
abbrev pub entries_fault : Place → ℕ → List ℕ → List ℕ → Option TaskFault
entries_fault place count earlier [] = None
entries_fault place count earlier (a ∷ more) =
    option_or
    (fault_if (nat_le count a) (NoSuchTask place))
    (option_or
    (fault_if (list_any (λ e. a == e) earlier) (Doubled place))
    (entries_fault place count (a ∷ earlier) more))

-- the first wrong entry of a task, where its graph has so many
abbrev pub task_fault : ℕ → ℕ → ℕ → Task → Option TaskFault
task_fault g count t task =
    entries_fault (record { part = TaskPart g t; field = After }) count [] task.after

-- the first wrong entry of a graph
abbrev pub after_fault : ℕ → Graph → Option TaskFault
after_fault g graph = first_fault (task_fault g (length graph.tasks)) 0 graph.tasks

-- the least task of a graph that stands on a loop
abbrev pub loop_fault : ℕ → Graph → Option TaskFault
loop_fault g graph =
    option_map (Loop g) (find (is_on_loop graph.tasks) (range_with_len 0 (length graph.tasks)))

-- the first fault of a set in range: a doubled name, then a wrong `after` entry, then a loop,
-- then a cycle above its limit
abbrev pub set_fault : TaskSet → Option TaskFault
set_fault set =
    option_or
    (graph_names_fault [] 0 set.graphs)
    (option_or
    (names_fault SporadicPart [] 0 (map (λ (s : Sporadic). s.name) set.sporadics))
    (option_or
    (first_fault after_fault 0 set.graphs)
    (option_or
    (first_fault loop_fault 0 set.graphs)
    (option_map CycleTooLong (first_multiple_above SLOT_LIMIT 1 (cycle_lengths set))))))
