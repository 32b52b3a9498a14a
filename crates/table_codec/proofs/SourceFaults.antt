-- The faults of a task set that is read as numbers: none that only a text has.
use Rattle.std.proofs.Common.{◌≡◌, ℕ, ◌+◌, Bool, true, false, List, [], ◌∷◌, length, map, find, Option, Some, None, subst}
use Rattle.std.specs.Prelude.{nat_le, ◌==◌, option_map}
use Rattle.std.specs.List.{range_with_len, list_any}
use Rattle.std.specs.Option.{option_or}
use Rattle.std.specs.Str.{bytes_eq}
use Rattle.slot_core.specs.declared.TheConstants.{SLOT_LIMIT}
use Rattle.slot_core.specs.declared.tasks.Task.{Task}
use Rattle.slot_core.specs.declared.tasks.Graph.{Graph}
use Rattle.slot_core.specs.declared.tasks.Sporadic.{Sporadic}
use Rattle.slot_core.specs.declared.tasks.TaskSet.{TaskSet}
use Rattle.slot_core.specs.declared.faults.Part.{Part}
use Rattle.slot_core.specs.declared.faults.Part.TheVariants.{Graph as GraphPart, Task as TaskPart, Sporadic as SporadicPart}
use Rattle.slot_core.specs.declared.faults.Field.TheVariants.{Name, After}
use Rattle.slot_core.specs.declared.faults.Place.{Place}
use Rattle.slot_core.specs.declared.faults.TaskFault.{TaskFault}
use Rattle.slot_core.specs.declared.faults.TaskFault.TheVariants.{Doubled, NoSuchTask, Loop, CycleTooLong}
use Rattle.slot_core.specs.Sets.Cycles.{cycle_lengths, first_multiple_above}
use Rattle.slot_core.specs.Sets.Faults.{fault_if, first_fault, names_fault, graph_names_fault, entries_fault, task_fault, after_fault, loop_fault, set_fault}
use Rattle.slot_core.specs.Offline.Precedence.{is_on_loop}
use Rattle.table_codec.specs.Faults.{IsOfSet}

-- the fault, if there is one, is one of a set
abbrev pub IsOfSets : Option TaskFault → Type 0
IsOfSets o = (fault : TaskFault) → o ≡ Some fault → IsOfSet fault

no_fault : IsOfSets None
no_fault fault h = cc

either_of_set : (o p : Option TaskFault) → IsOfSets o → IsOfSets p → IsOfSets (option_or o p)
either_of_set None p first second = second
either_of_set (Some f) p first second = first

fault_if-of_set : (b : Bool) (g : TaskFault) → IsOfSet g → IsOfSets (fault_if b g)
fault_if-of_set true g here fault h = let same : g ≡ fault = cc in subst IsOfSet same here
fault_if-of_set false g here fault h = cc

first_fault-of_set : {X : Type 0} (f : ℕ → X → Option TaskFault) → ((n : ℕ) (x : X) → IsOfSets (f n x)) → (n : ℕ) (xs : List X) → IsOfSets (first_fault f n xs)
first_fault-of_set f each n [] = no_fault
first_fault-of_set f each n (x ∷ xs) =
    either_of_set (f n x) (first_fault f (n + 1) xs) (each n x) (first_fault-of_set f each (n + 1) xs)

names_fault-of_set : (part : ℕ → Part) (earlier : List (List ℕ)) (n : ℕ) (names : List (List ℕ)) → IsOfSets (names_fault part earlier n names)
names_fault-of_set part earlier n [] = no_fault
names_fault-of_set part earlier n (name ∷ names) =
    either_of_set
    (fault_if (list_any (bytes_eq name) earlier) (Doubled (record { part = part n; field = Name })))
    (names_fault part (name ∷ earlier) (n + 1) names)
    (fault_if-of_set (list_any (bytes_eq name) earlier) (Doubled (record { part = part n; field = Name })) tt)
    (names_fault-of_set part (name ∷ earlier) (n + 1) names)

graph_names_fault-of_set : (earlier : List (List ℕ)) (g : ℕ) (graphs : List Graph) → IsOfSets (graph_names_fault earlier g graphs)
graph_names_fault-of_set earlier g [] = no_fault
graph_names_fault-of_set earlier g (graph ∷ graphs) =
    let names = map (λ (t : Task). t.name) graph.tasks in
    let own = Doubled (record { part = GraphPart g; field = Name }) in
    either_of_set
    (fault_if (list_any (bytes_eq graph.name) earlier) own)
    (option_or (names_fault (TaskPart g) [] 0 names) (graph_names_fault (graph.name ∷ earlier) (g + 1) graphs))
    (fault_if-of_set (list_any (bytes_eq graph.name) earlier) own tt)
    (either_of_set (names_fault (TaskPart g) [] 0 names) (graph_names_fault (graph.name ∷ earlier) (g + 1) graphs) (names_fault-of_set (TaskPart g) [] 0 names) (graph_names_fault-of_set (graph.name ∷ earlier) (g + 1) graphs))

entries_fault-of_set : (place : Place) (count : ℕ) (earlier entries : List ℕ) → IsOfSets (entries_fault place count earlier entries)
entries_fault-of_set place count earlier [] = no_fault
entries_fault-of_set place count earlier (a ∷ more) =
    either_of_set
    (fault_if (nat_le count a) (NoSuchTask place))
    (option_or (fault_if (list_any (λ e. a == e) earlier) (Doubled place)) (entries_fault place count (a ∷ earlier) more))
    (fault_if-of_set (nat_le count a) (NoSuchTask place) tt)
    (either_of_set (fault_if (list_any (λ e. a == e) earlier) (Doubled place)) (entries_fault place count (a ∷ earlier) more) (fault_if-of_set (list_any (λ e. a == e) earlier) (Doubled place) tt) (entries_fault-of_set place count (a ∷ earlier) more))

mapped-of_set : (f : ℕ → TaskFault) (o : Option ℕ) → ((n : ℕ) → IsOfSet (f n)) → IsOfSets (option_map f o)
mapped-of_set f None each fault h = cc
mapped-of_set f (Some n) each fault h = let same : f n ≡ fault = cc in subst IsOfSet same (each n)

-- so is each that the tests of a set find
pub set_fault-of_set : (set : TaskSet) → IsOfSets (set_fault set)
set_fault-of_set set =
    let tasks = λ (g : ℕ) (graph : Graph) (t : ℕ) (task : Task). entries_fault-of_set (record { part = TaskPart g t; field = After }) (length graph.tasks) [] task.after in
    let entries = first_fault-of_set after_fault (λ g graph. first_fault-of_set (task_fault g (length graph.tasks)) (tasks g graph) 0 graph.tasks) 0 set.graphs in
    let loops = first_fault-of_set loop_fault (λ g graph. mapped-of_set (Loop g) (find (is_on_loop graph.tasks) (range_with_len 0 (length graph.tasks))) (λ n. tt)) 0 set.graphs in
    let cycle = mapped-of_set CycleTooLong (first_multiple_above SLOT_LIMIT 1 (cycle_lengths set)) (λ n. tt) in
    either_of_set _ _ (graph_names_fault-of_set [] 0 set.graphs) (either_of_set _ _ (names_fault-of_set SporadicPart [] 0 (map (λ (s : Sporadic). s.name) set.sporadics)) (either_of_set _ _ entries (either_of_set _ _ loops cycle)))
