-- The names of a sound set stand apart, and hold no separator.
use Rattle.std.proofs.Common.{◌≡◌, ℕ, zero, suc, ◌+◌, ◌==◌, Bool, true, false, ◌&&◌, ◌||◌, List, [], ◌∷◌, length, map, Option, Some, None, refl, sym, ap, ◌∙◌}
use Rattle.std.specs.Prelude.{slice_get, position, option_map, is_none, nat_lt}
use Rattle.std.specs.Char.{is_ascii_alphabetic}
use Rattle.std.specs.Int.{is_in_range as is_byte_between}
use Rattle.std.specs.Option.{option_or}
use Rattle.std.specs.Str.{bytes_eq}
use Rattle.std.specs.List.{list_any, list_all}
use Rattle.std.proofs.lemmas.Bool.{and_parts, or_parts, false≢true}
use Rattle.std.proofs.lemmas.Option.{slice_get-map}
use Rattle.std.proofs.lemmas.Slice.Eq.{bytes_eq-Decides}
use Rattle.slot_core.specs.declared.faults.Part.{Part}
use Rattle.slot_core.specs.declared.faults.Part.TheVariants.{Graph as GraphPart, Task as TaskPart, Sporadic as SporadicPart}
use Rattle.slot_core.specs.declared.faults.Field.TheVariants.{Name}
use Rattle.slot_core.specs.declared.faults.TaskFault.{TaskFault}
use Rattle.slot_core.specs.declared.faults.TaskFault.TheVariants.{Doubled}
use Rattle.slot_core.specs.declared.tasks.Task.{Task}
use Rattle.slot_core.specs.declared.tasks.Graph.{Graph}
use Rattle.slot_core.specs.declared.tasks.Sporadic.{Sporadic}
use Rattle.slot_core.specs.declared.tasks.TaskSet.{TaskSet}
use Rattle.slot_core.specs.Sets.Faults.{fault_if, names_fault, graph_names_fault, set_fault}
use Rattle.slot_core.specs.Sets.Names.{is_name, is_name_byte}
use Rattle.slot_core.specs.declared.TheConstants.{NAME_LIMIT}
use Rattle.slot_core.specs.Sets.Ranges.{is_in_range, is_sound, sporadic_in_range}
use Rattle.slot_facts.proofs.Lists.Members.{passes_from_list_all, Has-from_slice_get}
use Rattle.slot_facts.proofs.Offline.Jobs.{graph_in_range-from_sound, task_in_range-from_sound}
use Rattle.slot_facts.proofs.Sets.Ranges.{SetRanges-from_sound}
use Rattle.slot_facts.proofs.Sets.Faults.{None-from_is_none, option_or-None, fault_if-None}
use Rattle.key_texts.proofs.PlaceLemmas.{position-one, position-Some}

-- a text has the bytes of itself
pub bytes_eq-same : (text : List ℕ) → bytes_eq text text ≡ true
bytes_eq-same text = (bytes_eq-Decides text text).1 refl

-- texts of the same bytes are one
pub same-from_bytes_eq : (a b : List ℕ) → bytes_eq a b ≡ true → a ≡ b
same-from_bytes_eq a b = (bytes_eq-Decides a b).0

-- the fault of a doubled name
abbrev doubled : (ℕ → Part) → ℕ → List ℕ → List (List ℕ) → Option TaskFault
doubled part n name earlier =
    fault_if (list_any (bytes_eq name) earlier) (Doubled (record { part = part n; field = Name }))

-- a name that is no fault stands not among those before it
fresh_name : (part : ℕ → Part) (earlier : List (List ℕ)) (n : ℕ) (names : List (List ℕ)) (i : ℕ) (name : List ℕ) → names_fault part earlier n names ≡ None → slice_get names i ≡ Some name → list_any (bytes_eq name) earlier ≡ false
fresh_name part earlier n [] i name none at = absurd (cc at)
fresh_name part earlier n (x ∷ names) zero name none at =
    let same : x ≡ name = cc at in
    let here = (option_or-None (doubled part n x earlier) (names_fault part (x ∷ earlier) (n + 1) names) none).0 in
    rw (← same) (fault_if-None _ _ here)
fresh_name part earlier n (x ∷ names) (suc i) name none at =
    let later = (option_or-None (doubled part n x earlier) (names_fault part (x ∷ earlier) (n + 1) names) none).1 in
    (or_parts (bytes_eq name x) (list_any (bytes_eq name) earlier) (fresh_name part (x ∷ earlier) (n + 1) names i name later at)).1

-- a name that is no fault is not the one right before
other_name : (part : ℕ → Part) (earlier : List (List ℕ)) (n : ℕ) (x : List ℕ) (names : List (List ℕ)) (i : ℕ) (name : List ℕ) → names_fault part earlier n (x ∷ names) ≡ None → slice_get names i ≡ Some name → x ≡ name → ⊥
other_name part earlier n x names i name none at same =
    let later = (option_or-None (doubled part n x earlier) (names_fault part (x ∷ earlier) (n + 1) names) none).1 in
    let apart = (or_parts (bytes_eq name x) (list_any (bytes_eq name) earlier) (fresh_name part (x ∷ earlier) (n + 1) names i name later at)).0 in
    false≢true (sym apart ∙ rw same (bytes_eq-same name))

-- the same name stands at one place
pub same_place : (part : ℕ → Part) (earlier : List (List ℕ)) (n : ℕ) (names : List (List ℕ)) (i j : ℕ) (name : List ℕ) → names_fault part earlier n names ≡ None → slice_get names i ≡ Some name → slice_get names j ≡ Some name → i ≡ j
same_place part earlier n [] i j name none at there = absurd (cc at)
same_place part earlier n (x ∷ names) zero zero name none at there = refl
same_place part earlier n (x ∷ names) zero (suc j) name none at there =
    absurd (other_name part earlier n x names j name none there (cc at))
same_place part earlier n (x ∷ names) (suc i) zero name none at there =
    absurd (other_name part earlier n x names i name none at (cc there))
same_place part earlier n (x ∷ names) (suc i) (suc j) name none at there =
    let later = (option_or-None (doubled part n x earlier) (names_fault part (x ∷ earlier) (n + 1) names) none).1 in
    ap suc (same_place part (x ∷ earlier) (n + 1) names i j name later at there)

-- the faults of the tasks of a graph
abbrev task_names : ℕ → Graph → Option TaskFault
task_names g graph = names_fault (TaskPart g) [] 0 (map (λ (t : Task). t.name) graph.tasks)

-- graphs without a doubled name: the first one, its tasks and the graphs after it have none
graph_names-None : (earlier : List (List ℕ)) (g : ℕ) (graph : Graph) (graphs : List Graph) → graph_names_fault earlier g (graph ∷ graphs) ≡ None → (doubled GraphPart g graph.name earlier ≡ None) × (task_names g graph ≡ None) × (graph_names_fault (graph.name ∷ earlier) (g + 1) graphs ≡ None)
graph_names-None earlier g graph graphs none =
    let (own, rest) = option_or-None (doubled GraphPart g graph.name earlier) (option_or (task_names g graph) (graph_names_fault (graph.name ∷ earlier) (g + 1) graphs)) none in
    let (tasks, later) = option_or-None (task_names g graph) (graph_names_fault (graph.name ∷ earlier) (g + 1) graphs) rest in
    (own, tasks, later)

-- the names of such graphs, as a list, have none
names_of_graphs : (earlier : List (List ℕ)) (g : ℕ) (graphs : List Graph) → graph_names_fault earlier g graphs ≡ None → names_fault GraphPart earlier g (map (λ (x : Graph). x.name) graphs) ≡ None
names_of_graphs earlier g [] none = refl
names_of_graphs earlier g (graph ∷ graphs) none =
    let (own, tasks, later) = graph_names-None earlier g graph graphs none in
    rw (own, names_of_graphs (graph.name ∷ earlier) (g + 1) graphs later) refl

-- the tasks of each of such graphs have none
names_of_tasks : (earlier : List (List ℕ)) (g : ℕ) (graphs : List Graph) (i : ℕ) (graph : Graph) → graph_names_fault earlier g graphs ≡ None → slice_get graphs i ≡ Some graph → (k : ℕ) × (task_names k graph ≡ None)
names_of_tasks earlier g [] i graph none at = absurd (cc at)
names_of_tasks earlier g (x ∷ graphs) zero graph none at =
    let same : x ≡ graph = cc at in
    (g, rw (← same) (graph_names-None earlier g x graphs none).1)
names_of_tasks earlier g (x ∷ graphs) (suc i) graph none at =
    names_of_tasks (x.name ∷ earlier) (g + 1) graphs i graph (graph_names-None earlier g x graphs none).2 at

-- items whose names are no fault, one name at one place
pub one_place : {X : Type 0} (name_of : X → List ℕ) (part : ℕ → Part) (xs : List X) (i j : ℕ) (x y : X) → names_fault part [] 0 (map name_of xs) ≡ None → slice_get xs i ≡ Some x → slice_get xs j ≡ Some y → name_of y ≡ name_of x → j ≡ i
one_place name_of part xs i j x y none at there same =
    let here : slice_get (map name_of xs) i ≡ Some (name_of x) = slice_get-map name_of xs i ∙ ap (option_map name_of) at in
    let also : slice_get (map name_of xs) j ≡ Some (name_of x) = slice_get-map name_of xs j ∙ ap (option_map name_of) there ∙ ap Some same in
    same_place part [] 0 (map name_of xs) j i (name_of x) none also here

-- an item whose name is no fault is the first of its name
pub named-at : {X : Type 0} (name_of : X → List ℕ) (part : ℕ → Part) (xs : List X) (i : ℕ) (x : X) → names_fault part [] 0 (map name_of xs) ≡ None → slice_get xs i ≡ Some x → position (λ y. bytes_eq (name_of y) (name_of x)) xs ≡ Some i
named-at name_of part xs i x none at =
    position-one (λ y. bytes_eq (name_of y) (name_of x)) xs i x at (bytes_eq-same (name_of x))
    (λ j y there same. one_place name_of part xs i j x y none at there (same-from_bytes_eq (name_of y) (name_of x) same))

-- what is found by a name has it
pub named-Some : {X : Type 0} (name_of : X → List ℕ) (xs : List X) (name : List ℕ) (i : ℕ) → position (λ y. bytes_eq (name_of y) name) xs ≡ Some i → (x : X) × (slice_get xs i ≡ Some x) × (name_of x ≡ name)
named-Some name_of xs name i found =
    let (x, at, same) = position-Some (λ y. bytes_eq (name_of y) name) xs i found in
    (x, at, same-from_bytes_eq (name_of x) name same)

-- a sound set has no fault in its names
pub record NamesApart (set : TaskSet) : Type 0 where
  pub graphs : names_fault GraphPart [] 0 (map (λ (x : Graph). x.name) set.graphs) ≡ None
  pub tasks : (i : ℕ) (graph : Graph) → slice_get set.graphs i ≡ Some graph → (k : ℕ) × (names_fault (TaskPart k) [] 0 (map (λ (t : Task). t.name) graph.tasks) ≡ None)
  pub sporadics : names_fault SporadicPart [] 0 (map (λ (s : Sporadic). s.name) set.sporadics) ≡ None

-- the names of a sound set are no faults
pub NamesApart-from_sound : (set : TaskSet) → is_sound set ≡ true → NamesApart set
NamesApart-from_sound set sound =
    let faultless = None-from_is_none (set_fault set) (and_parts (is_in_range set) (is_none (set_fault set)) sound).1 in
    let (graphs, rest) = option_or-None (graph_names_fault [] 0 set.graphs) _ faultless in
    let (sporadics, _) = option_or-None (names_fault SporadicPart [] 0 (map (λ (s : Sporadic). s.name) set.sporadics)) _ rest in
    record {
      graphs = names_of_graphs [] 0 set.graphs graphs;
      tasks = λ i graph at. names_of_tasks [] 0 set.graphs i graph graphs at;
      sporadics = sporadics;
    }

-- of five tests one passes where the second or the third does
either : (a b c d e : Bool) → (b || c) ≡ true → (((a || b) || c) || d || e) ≡ true
either true b c d e h = refl
either false true c d e h = refl
either false false true d e h = refl
either false false false d e h = absurd (false≢true h)

-- a letter may stand in a name
letter_is_name_byte : (c : ℕ) → is_ascii_alphabetic c ≡ true → is_name_byte c ≡ true
letter_is_name_byte c letter = either (is_byte_between 48 57 c) (is_byte_between 65 90 c) (is_byte_between 97 122 c) (c == 95) (c == 45) letter

-- each byte of a name is one that may stand in a name
pub all_name_bytes : (name : List ℕ) → is_name name ≡ true → list_all is_name_byte name ≡ true
all_name_bytes [] h = refl
all_name_bytes (first ∷ rest) h =
    let (front, bytes) = and_parts (is_ascii_alphabetic first && nat_lt (length rest) NAME_LIMIT) (list_all is_name_byte rest) h in
    let (letter, _) = and_parts (is_ascii_alphabetic first) (nat_lt (length rest) NAME_LIMIT) front in
    rw (letter_is_name_byte first letter, bytes) refl

-- the first of six tests that all pass
first_of_six : (a b c d e f : Bool) → (a && b && c && d && e && f) ≡ true → a ≡ true
first_of_six true b c d e f h = refl
first_of_six false b c d e f h = h

-- the first of four tests that all pass
first_of_four : (a b c d : Bool) → (a && b && c && d) ≡ true → a ≡ true
first_of_four true b c d h = refl
first_of_four false b c d h = h

-- the first of three tests that all pass
first_of_three : (a b c : Bool) → (a && b && c) ≡ true → a ≡ true
first_of_three true b c h = refl
first_of_three false b c h = h

-- the name of a graph of a sound set is a name
pub graph_is_named : (set : TaskSet) (g : ℕ) (graph : Graph) → is_sound set ≡ true → slice_get set.graphs g ≡ Some graph → is_name graph.name ≡ true
graph_is_named set g graph sound at = first_of_six _ _ _ _ _ _ (graph_in_range-from_sound set g graph sound at)

-- the name of a task of a sound set is a name
pub task_is_named : (set : TaskSet) (g t : ℕ) (graph : Graph) (task : Task) → is_sound set ≡ true → slice_get set.graphs g ≡ Some graph → slice_get graph.tasks t ≡ Some task → is_name task.name ≡ true
task_is_named set g t graph task sound at there = first_of_three _ _ _ (task_in_range-from_sound set g t graph task sound at there)

-- the name of a sporadic task of a sound set is a name
pub sporadic_is_named : (set : TaskSet) (i : ℕ) (s : Sporadic) → is_sound set ≡ true → slice_get set.sporadics i ≡ Some s → is_name s.name ≡ true
sporadic_is_named set i s sound at =
    first_of_four _ _ _ _ (passes_from_list_all sporadic_in_range set.sporadics s (SetRanges-from_sound set sound).sporadics (Has-from_slice_get set.sporadics i s at))
