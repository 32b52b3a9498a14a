-- What is left of a search for faults from a place of a list on, one item further and at the end.
use Rattle.std.proofs.Common.{◌≡◌, ◌≢◌, IfErr, Result, Ok, Err, ℕ, ◌+◌, ◌<◌, Bool, true, false, ◌||◌, ◌==◌, List, [], ◌∷◌, map, reverse, length, take, drop, get_or, Option, Some, None, refl, sym, ap, ◌∙◌}
use Rattle.std.specs.Prelude.{nat_le}
use Rattle.std.specs.Option.{option_or}
use Rattle.std.specs.List.{list_any}
use Rattle.std.proofs.lemmas.List.{length-map, at_drop_more, take_more, take-map, reverse-append, get_or-map}
use Rattle.std.proofs.lemmas.List.Sorted.{list_any-IsPermutation, IsPermutation-reverse}
use Rattle.slot_core.specs.declared.tasks.Graph.{Graph}
use Rattle.slot_core.specs.declared.tasks.Task.{Task}
use Rattle.slot_core.specs.declared.faults.Part.{Part}
use Rattle.slot_core.specs.declared.faults.Part.TheVariants.{Graph as GraphPart, Task as TaskPart}
use Rattle.slot_core.specs.declared.faults.Field.TheVariants.{Name}
use Rattle.slot_core.specs.declared.faults.Place.{Place}
use Rattle.slot_core.specs.declared.faults.TaskFault.{TaskFault}
use Rattle.slot_core.specs.declared.faults.TaskFault.TheVariants.{Doubled, Memory, NoSuchTask}
use Rattle.std.specs.Str.{bytes_eq}
use Rattle.source_check.specs.Checks.{Tells}
use Rattle.slot_core.specs.Sets.Faults.{fault_if, first_fault, names_fault, graph_names_fault, entries_fault}

-- the items before a place, newest first
abbrev pub earlier : {X : Type 0} → List X → ℕ → List X
earlier xs i = reverse (take i xs)

earlier_more : {X : Type 0} (xs : List X) (i : ℕ) (d : X) → i < length xs → earlier xs (i + 1) ≡ get_or xs i d ∷ earlier xs i
earlier_more xs i d within =
    ap reverse (take_more xs i d within) ∙ reverse-append (take i xs) (get_or xs i d ∷ [])

-- one of them passes a test, in whatever order they stand
any_earlier : {X : Type 0} (p : X → Bool) (xs : List X) (i : ℕ) → list_any p (earlier xs i) ≡ list_any p (take i xs)
any_earlier p xs i =
    sym (list_any-IsPermutation p (take i xs) (reverse (take i xs)) (IsPermutation-reverse (take i xs)))

-- a test that tells its fault, and one that passes on
pub told : (found rest : Option TaskFault) (test : Bool) (fault : TaskFault) → found ≡ option_or (fault_if test fault) rest → test ≡ true → found ≡ Some fault
told found rest test fault is h = is ∙ ap (λ t. option_or (fault_if t fault) rest) h

pub told_later : (found rest : Option TaskFault) (test : Bool) (fault : TaskFault) → found ≡ option_or (fault_if test fault) rest → test ≡ false → found ≡ rest
told_later found rest test fault is h = is ∙ ap (λ t. option_or (fault_if t fault) rest) h

-- a part that has a fault, and one that has none
pub told_part : (found part rest : Option TaskFault) (fault : TaskFault) → found ≡ option_or part rest → part ≡ Some fault → found ≡ Some fault
told_part found part rest fault is h = is ∙ ap (λ o. option_or o rest) h

pub told_after_part : (found part rest : Option TaskFault) → found ≡ option_or part rest → part ≡ None → found ≡ rest
told_after_part found part rest is h = is ∙ ap (λ o. option_or o rest) h

-- the first fault from place i on
abbrev pub faults_from : {X : Type 0} → (ℕ → X → Option TaskFault) → List X → ℕ → Option TaskFault
faults_from f xs i = first_fault f i (drop i xs)

pub faults_step : {X : Type 0} (f : ℕ → X → Option TaskFault) (xs : List X) (i : ℕ) (x : X) → i < length xs → x ≡ get_or xs i x → faults_from f xs i ≡ option_or (f i x) (faults_from f xs (i + 1))
faults_step f xs i x within is =
    at_drop_more (first_fault f i) xs i x within ∙ ap (λ y. option_or (f i y) (faults_from f xs (i + 1))) (sym is)

-- the first doubled name from place i on
abbrev pub names_from : {X : Type 0} → (ℕ → Part) → (X → List ℕ) → List X → ℕ → Option TaskFault
names_from part name xs i = names_fault part (earlier (map name xs) i) i (map name (drop i xs))

abbrev pub doubled_name : Part → TaskFault
doubled_name part = Doubled (record { part = part; field = Name })

images_more : {X Y : Type 0} (f : X → Y) (xs : List X) (i : ℕ) (x : X) → i < length xs → x ≡ get_or xs i x → earlier (map f xs) (i + 1) ≡ f x ∷ earlier (map f xs) i
images_more f xs i x within is =
    earlier_more (map f xs) i (f x) (rw length-map within) ∙ ap (λ y. y ∷ earlier (map f xs) i) (get_or-map f xs i x (f x) within ∙ sym (ap f is))

list_any-map : {X Y : Type 0} (p : Y → Bool) (f : X → Y) (xs : List X) → list_any p (map f xs) ≡ list_any (λ x. p (f x)) xs
list_any-map p f [] = refl
list_any-map p f (x ∷ xs) = ap (λ b. p (f x) || b) (list_any-map p f xs)

any_image : {X Y : Type 0} (p : Y → Bool) (f : X → Y) (xs : List X) (i : ℕ) → list_any p (earlier (map f xs) i) ≡ list_any (λ x. p (f x)) (take i xs)
any_image p f xs i = any_earlier p (map f xs) i ∙ ap (list_any p) (take-map f i xs) ∙ list_any-map p f (take i xs)

pub names_step : {X : Type 0} (part : ℕ → Part) (name : X → List ℕ) (xs : List X) (i : ℕ) (x : X) → i < length xs → x ≡ get_or xs i x → names_from part name xs i ≡ option_or (fault_if (list_any (λ y. bytes_eq (name x) (name y)) (take i xs)) (doubled_name (part i))) (names_from part name xs (i + 1))
names_step part name xs i x within is =
    let before = earlier (map name xs) i in
    let rest = drop (i + 1) xs in
    at_drop_more (λ ys. names_fault part before i (map name ys)) xs i x within ∙ ap (λ y. names_fault part before i (map name (y ∷ rest))) (sym is) ∙ ap (λ test. option_or (fault_if test (doubled_name (part i))) (names_fault part (name x ∷ before) (i + 1) (map name rest))) (any_image (bytes_eq (name x)) name xs i) ∙ ap (λ names. option_or (fault_if (list_any (λ y. bytes_eq (name x) (name y)) (take i xs)) (doubled_name (part i))) (names_fault part names (i + 1) (map name rest))) (sym (images_more name xs i x within is))

-- the first doubled name of a graph or of a task of a graph, from graph i on
abbrev pub name_of : Graph → List ℕ
name_of graph = graph.name

abbrev pub task_names_fault : ℕ → List Task → Option TaskFault
task_names_fault g tasks = names_fault (TaskPart g) [] 0 (map (λ (t : Task). t.name) tasks)

abbrev pub graph_names_from : List Graph → ℕ → Option TaskFault
graph_names_from graphs i = graph_names_fault (earlier (map name_of graphs) i) i (drop i graphs)

pub graph_names_step : (graphs : List Graph) (i : ℕ) (graph : Graph) → i < length graphs → graph ≡ get_or graphs i graph → graph_names_from graphs i ≡ option_or (fault_if (list_any (λ g. bytes_eq graph.name (name_of g)) (take i graphs)) (doubled_name (GraphPart i))) (option_or (task_names_fault i graph.tasks) (graph_names_from graphs (i + 1)))
graph_names_step graphs i graph within is =
    let before = earlier (map name_of graphs) i in
    let rest = drop (i + 1) graphs in
    at_drop_more (graph_names_fault before i) graphs i graph within ∙ ap (λ g. graph_names_fault before i (g ∷ rest)) (sym is) ∙ ap (λ test. option_or (fault_if test (doubled_name (GraphPart i))) (option_or (task_names_fault i graph.tasks) (graph_names_fault (graph.name ∷ before) (i + 1) rest))) (any_image (bytes_eq graph.name) name_of graphs i) ∙ ap (λ names. option_or (fault_if (list_any (λ g. bytes_eq graph.name (name_of g)) (take i graphs)) (doubled_name (GraphPart i))) (option_or (task_names_fault i graph.tasks) (graph_names_fault names (i + 1) rest))) (sym (images_more name_of graphs i graph within is))

-- the first wrong entry from place i on
abbrev pub entries_from : Place → ℕ → List ℕ → ℕ → Option TaskFault
entries_from place count entries i = entries_fault place count (earlier entries i) (drop i entries)

pub entries_step : (place : Place) (count : ℕ) (entries : List ℕ) (i : ℕ) → i < length entries → let a = get_or entries i 0 in entries_from place count entries i ≡ option_or (fault_if (nat_le count a) (NoSuchTask place)) (option_or (fault_if (list_any (λ e. a == e) (take i entries)) (Doubled place)) (entries_from place count entries (i + 1)))
entries_step place count entries i within =
    let a = get_or entries i 0 in
    let before = earlier entries i in
    let rest = drop (i + 1) entries in
    let low = fault_if (nat_le count a) (NoSuchTask place) in
    at_drop_more (entries_fault place count before) entries i 0 within ∙ ap (λ test. option_or low (option_or (fault_if test (Doubled place)) (entries_fault place count (a ∷ before) rest))) (any_earlier (λ e. a == e) entries i) ∙ ap (λ es. option_or low (option_or (fault_if (list_any (λ e. a == e) (take i entries)) (Doubled place)) (entries_fault place count es rest))) (sym (earlier_more entries i 0 within))

-- what is told of the second of five parts, where the first has no fault; and so on
pub fault_of_second : (a b rest : Option TaskFault) (e : TaskFault) → a ≡ None → b ≡ Some e → option_or a (option_or b rest) ≡ Some e
fault_of_second a b rest e first second = rw (first, second) refl

pub fault_of_third : (a b c rest : Option TaskFault) (e : TaskFault) → a ≡ None → b ≡ None → c ≡ Some e → option_or a (option_or b (option_or c rest)) ≡ Some e
fault_of_third a b c rest e first second third = rw (first, second, third) refl

pub fault_of_fourth : (a b c d rest : Option TaskFault) (e : TaskFault) → a ≡ None → b ≡ None → c ≡ None → d ≡ Some e → option_or a (option_or b (option_or c (option_or d rest))) ≡ Some e
fault_of_fourth a b c d rest e first second third fourth = rw (first, second, third, fourth) refl

pub fault_of_fifth : (a b c d rest : Option TaskFault) → a ≡ None → b ≡ None → c ≡ None → d ≡ None → option_or a (option_or b (option_or c (option_or d rest))) ≡ rest
fault_of_fifth a b c d rest first second third fourth = rw (first, second, third, fourth) refl

-- a part that tells its fault tells that of the whole, where the whole has the part's
pub tells-whole : {T : Type 0} (result : Result T TaskFault) (part whole : Option TaskFault) → Tells result part → whole ≡ part → IfErr result (λ e. e ≢ Memory → whole ≡ Some e)
tells-whole (Ok done) part whole tells same = tt
tells-whole (Err e) part whole tells same = λ other. same ∙ tells
