-- A set that is grown within the limit is sound: nothing but one worst case has changed.
use Rattle.std.proofs.Common.{◌≡◌, ℕ, zero, suc, ◌+◌, ◌≤◌, Bool, true, List, [], ◌∷◌, length, Option, Some, refl, sym, ap, ◌∙◌, arith}
use Rattle.std.specs.Prelude.{find, nat_le, is_none, slice_get, option_map}
use Rattle.std.specs.List.{list_all, list_any, range_with_len}
use Rattle.std.proofs.lemmas.Bool.{and_parts, and_from, le-leb}
use Rattle.slot_core.specs.declared.TheConstants.{GRAPH_LIMIT, TASK_LIMIT, AFTER_LIMIT, SPORADIC_LIMIT, SLOT_LIMIT, SOFT_LIMIT}
use Rattle.slot_core.specs.declared.faults.Part.{Part}
use Rattle.slot_core.specs.declared.faults.Part.TheVariants.{Top, Graph as GraphPart, Task as TaskPart, Sporadic as SporadicPart}
use Rattle.slot_core.specs.declared.faults.Field.TheVariants.{After}
use Rattle.slot_core.specs.declared.faults.TaskFault.{TaskFault}
use Rattle.slot_core.specs.declared.faults.TaskFault.TheVariants.{Loop, CycleTooLong}
use Rattle.slot_core.specs.declared.tasks.Task.{Task}
use Rattle.slot_core.specs.declared.tasks.Graph.{Graph}
use Rattle.slot_core.specs.declared.tasks.Sporadic.{Sporadic}
use Rattle.slot_core.specs.declared.tasks.TaskSet.{TaskSet}
use Rattle.slot_core.specs.Sets.Cycles.{first_multiple_above}
use Rattle.slot_core.specs.Sets.Names.{is_name}
use Rattle.slot_core.specs.Sets.Ranges.{is_between, task_in_range, graph_in_range, sporadic_in_range, is_in_range, is_sound}
use Rattle.slot_core.specs.Sets.Faults.{first_fault, names_fault, graph_names_fault, entries_fault, task_fault, after_fault, loop_fault, set_fault}
use Rattle.slot_core.specs.Offline.Precedence.{after_of, leads_to, is_on_loop}
use Rattle.slot_core.specs.Claims.Growth.{changed_at, longer_task, with_longer_task, longer_sporadic, grown}
use Rattle.slot_facts.proofs.Lists.Tests.{find-same, list_any-same}
use Rattle.slot_facts.proofs.Sets.Ranges.{bounds}
use Rattle.margin_find.specs.Laws.{Pairwise}
use Rattle.margin_find.specs.Parts.{wcet_at}
use Rattle.margin_find.proofs.Growths.{set-pairs}
use Rattle.margin_find.proofs.LongerChains.{IsNoLonger, after_of-same}
use Rattle.margin_find.proofs.LongerSets.{GraphIsNoLonger, SporadicIsNoLonger, SetIsNoLonger, cycle_lengths-same}
use Rattle.margin_find.proofs.Pairs.{Pairwise-same, Pairwise-length}

-- the first fault along lists that are related
first_fault-same : {X : Type 0} (R : X → X → Type 0) (f h : ℕ → X → Option TaskFault) (n : ℕ) (xs ys : List X) → ((k : ℕ) (x y : X) → R x y → f k x ≡ h k y) → Pairwise R xs ys → first_fault f n xs ≡ first_fault h n ys
first_fault-same R f h n [] [] each pairs = refl
first_fault-same R f h n [] (y ∷ ys) each pairs = absurd pairs
first_fault-same R f h n (x ∷ xs) [] each pairs = absurd pairs
first_fault-same R f h n (x ∷ xs) (y ∷ ys) each pairs =
    let here = each n x y pairs.0 in
    let later = first_fault-same R f h (n + 1) xs ys each pairs.1 in
    rw (here, later) refl

-- names
graph_names_fault-same : (earlier : List (List ℕ)) (g : ℕ) (xs ys : List Graph) → Pairwise GraphIsNoLonger xs ys → graph_names_fault earlier g xs ≡ graph_names_fault earlier g ys
graph_names_fault-same earlier g [] [] h = refl
graph_names_fault-same earlier g [] (y ∷ ys) h = absurd h
graph_names_fault-same earlier g (x ∷ xs) [] h = absurd h
graph_names_fault-same earlier g (x ∷ xs) (y ∷ ys) h =
    let name = h.0.name in
    let names = Pairwise-same IsNoLonger (λ (t : Task). t.name) x.tasks y.tasks (λ t u r. r.name) h.0.tasks in
    let later = graph_names_fault-same (x.name ∷ earlier) (g + 1) xs ys h.1 in
    let moved : graph_names_fault (x.name ∷ earlier) (g + 1) xs ≡ graph_names_fault (y.name ∷ earlier) (g + 1) ys = later ∙ ap (λ n. graph_names_fault (n ∷ earlier) (g + 1) ys) name in
    rw (moved, names, name) refl

-- `after` entries
after_fault-same : (g : ℕ) (x y : Graph) → GraphIsNoLonger x y → after_fault g x ≡ after_fault g y
after_fault-same g x y h =
    let count = Pairwise-length IsNoLonger x.tasks y.tasks h.tasks in
    first_fault-same IsNoLonger (task_fault g (length x.tasks)) (task_fault g (length x.tasks)) 0 x.tasks y.tasks (λ t u v r. ap (entries_fault (record { part = TaskPart g t; field = After }) (length x.tasks) []) r.after) h.tasks
    ∙ ap (λ n. first_fault (task_fault g n) 0 y.tasks) count

-- loops
leads_to-same : (tasks longer : List Task) (n a b : ℕ) → Pairwise IsNoLonger tasks longer → leads_to tasks n a b ≡ leads_to longer n a b
leads_to-same tasks longer zero a b h = refl
leads_to-same tasks longer (suc n) a b h =
    list_any-same (λ p. leads_to tasks n p b) (λ p. leads_to longer n p b) (after_of tasks a) (λ p _. leads_to-same tasks longer n p b h)
    ∙ ap (list_any (λ p. leads_to longer n p b)) (after_of-same tasks longer a h)

is_on_loop-same : (tasks longer : List Task) (t : ℕ) → Pairwise IsNoLonger tasks longer → is_on_loop tasks t ≡ is_on_loop longer t
is_on_loop-same tasks longer t h =
    list_any-same (λ n. leads_to tasks n t t) (λ n. leads_to longer n t t) (range_with_len 1 (length tasks)) (λ n _. leads_to-same tasks longer n t t h)
    ∙ ap (λ k. list_any (λ n. leads_to longer n t t) (range_with_len 1 k)) (Pairwise-length IsNoLonger tasks longer h)

loop_fault-same : (g : ℕ) (x y : Graph) → GraphIsNoLonger x y → loop_fault g x ≡ loop_fault g y
loop_fault-same g x y h =
    let found : find (is_on_loop x.tasks) (range_with_len 0 (length x.tasks)) ≡ find (is_on_loop y.tasks) (range_with_len 0 (length y.tasks)) = find-same (is_on_loop x.tasks) (is_on_loop y.tasks) (range_with_len 0 (length x.tasks)) (λ t _. is_on_loop-same x.tasks y.tasks t h.tasks) ∙ ap (λ k. find (is_on_loop y.tasks) (range_with_len 0 k)) (Pairwise-length IsNoLonger x.tasks y.tasks h.tasks) in
    ap (option_map (Loop g)) found

-- so the longer set has the same fault, or none
set_fault-same : (set longer : TaskSet) → SetIsNoLonger set longer → set_fault set ≡ set_fault longer
set_fault-same set longer h =
    let graph_names = graph_names_fault-same [] 0 set.graphs longer.graphs h.graphs in
    let names = ap (names_fault SporadicPart [] 0) (Pairwise-same SporadicIsNoLonger (λ (s : Sporadic). s.name) set.sporadics longer.sporadics (λ x y r. r.name) h.sporadics) in
    let entries = first_fault-same GraphIsNoLonger after_fault after_fault 0 set.graphs longer.graphs after_fault-same h.graphs in
    let loops = first_fault-same GraphIsNoLonger loop_fault loop_fault 0 set.graphs longer.graphs loop_fault-same h.graphs in
    let cycle = ap (λ ns. option_map CycleTooLong (first_multiple_above SLOT_LIMIT 1 ns)) (cycle_lengths-same set longer h) in
    cc

-- a test that all items pass, after one is changed
list_all-changed_at : {X : Type 0} (p : X → Bool) (f : X → X) (n : ℕ) (xs : List X) → list_all p xs ≡ true → ((x : X) → slice_get xs n ≡ Some x → p x ≡ true → p (f x) ≡ true) → list_all p (changed_at f n xs) ≡ true
list_all-changed_at p f n [] all here = refl
list_all-changed_at p f zero (x ∷ xs) all here =
    let parts = and_parts (p x) (list_all p xs) all in
    and_from (p (f x)) (list_all p xs) (here x refl parts.0) parts.1
list_all-changed_at p f (suc n) (x ∷ xs) all here =
    let parts = and_parts (p x) (list_all p xs) all in
    and_from (p x) (list_all p (changed_at f n xs)) parts.0 (list_all-changed_at p f n xs parts.1 here)

pub length-changed_at : {X : Type 0} (f : X → X) (n : ℕ) (xs : List X) → length (changed_at f n xs) ≡ length xs
length-changed_at f n [] = refl
length-changed_at f zero (x ∷ xs) = omega arith
length-changed_at f (suc n) (x ∷ xs) = omega (arith, length-changed_at f n xs)

-- a worst case within the limit
between-more : (n growth : ℕ) → is_between 1 SLOT_LIMIT n ≡ true → n + growth ≤ SLOT_LIMIT → is_between 1 SLOT_LIMIT (n + growth) ≡ true
between-more n growth h low =
    let (least, _) = bounds 1 SLOT_LIMIT n h in
    and_from (nat_le 1 (n + growth)) (nat_le (n + growth) SLOT_LIMIT) (le-leb 1 (n + growth) (omega arith)) (le-leb (n + growth) SLOT_LIMIT low)

longer_task-in_range : (t : Task) (growth : ℕ) → task_in_range t ≡ true → t.wcet + growth ≤ SLOT_LIMIT → task_in_range (longer_task growth t) ≡ true
longer_task-in_range t growth h low =
    let (front, entries) = and_parts _ (nat_le (length t.after) AFTER_LIMIT) h in
    let (name, wcet) = and_parts (is_name t.name) (is_between 1 SLOT_LIMIT t.wcet) front in
    and_from _ (nat_le (length t.after) AFTER_LIMIT) (and_from (is_name t.name) (is_between 1 SLOT_LIMIT (t.wcet + growth)) name (between-more t.wcet growth wcet low)) entries

longer_sporadic-in_range : (s : Sporadic) (growth : ℕ) → sporadic_in_range s ≡ true → s.wcet + growth ≤ SLOT_LIMIT → sporadic_in_range (longer_sporadic growth s) ≡ true
longer_sporadic-in_range s growth h low =
    let (apart, deadline) = and_parts _ (is_between 1 s.separation s.deadline) h in
    let (needs, separation) = and_parts _ (is_between 1 SLOT_LIMIT s.separation) apart in
    let (name, wcet) = and_parts (is_name s.name) (is_between 1 SLOT_LIMIT s.wcet) needs in
    and_from _ (is_between 1 s.separation s.deadline) (and_from _ (is_between 1 SLOT_LIMIT s.separation) (and_from (is_name s.name) (is_between 1 SLOT_LIMIT (s.wcet + growth)) name (between-more s.wcet growth wcet low)) separation) deadline

with_longer_task-in_range : (g : Graph) (t growth : ℕ) → graph_in_range g ≡ true → ((task : Task) → slice_get g.tasks t ≡ Some task → task.wcet + growth ≤ SLOT_LIMIT) → graph_in_range (with_longer_task t growth g) ≡ true
with_longer_task-in_range g t growth h low =
    let (counted, tasks) = and_parts _ (list_all task_in_range g.tasks) h in
    let all = list_all-changed_at task_in_range (longer_task growth) t g.tasks tasks (λ task at passes. longer_task-in_range task growth passes (low task at)) in
    let (front, count) = and_parts _ (is_between 1 TASK_LIMIT (length g.tasks)) counted in
    let same = length-changed_at (longer_task growth) t g.tasks in
    and_from _ (list_all task_in_range (changed_at (longer_task growth) t g.tasks)) (and_from _ (is_between 1 TASK_LIMIT (length (changed_at (longer_task growth) t g.tasks))) front (rw same count)) all

-- so the set stays in range
grown-in_range : (set : TaskSet) (part : Part) (growth : ℕ) → is_in_range set ≡ true → wcet_at set part + growth ≤ SLOT_LIMIT → is_in_range (grown set part growth) ≡ true
grown-in_range set Top growth h low = h
grown-in_range set (GraphPart graph) growth h low = h
grown-in_range set (TaskPart graph task) growth h low =
    let (front, sporadics) = and_parts _ (list_all sporadic_in_range set.sporadics) h in
    let (listed, few) = and_parts _ (nat_le (length set.sporadics) SPORADIC_LIMIT) front in
    let (counted, graphs) = and_parts _ (list_all graph_in_range set.graphs) listed in
    let (soft, count) = and_parts (is_between 1 SOFT_LIMIT set.soft_limit) (is_between 1 GRAPH_LIMIT (length set.graphs)) counted in
    let longer = changed_at (with_longer_task task growth) graph set.graphs in
    let same = length-changed_at (with_longer_task task growth) graph set.graphs in
    let all = list_all-changed_at graph_in_range (with_longer_task task growth) graph set.graphs graphs (λ g at passes. with_longer_task-in_range g task growth passes (λ t here.
    let wcet : wcet_at set (TaskPart graph task) ≡ t.wcet = rw (at, here) refl in
    omega arith)) in
    and_from _ (list_all sporadic_in_range set.sporadics) (and_from _ (nat_le (length set.sporadics) SPORADIC_LIMIT) (and_from _ (list_all graph_in_range longer) (and_from (is_between 1 SOFT_LIMIT set.soft_limit) (is_between 1 GRAPH_LIMIT (length longer)) soft (rw same count)) all) few) sporadics
grown-in_range set (SporadicPart index) growth h low =
    let (front, sporadics) = and_parts _ (list_all sporadic_in_range set.sporadics) h in
    let (listed, few) = and_parts _ (nat_le (length set.sporadics) SPORADIC_LIMIT) front in
    let longer = changed_at (longer_sporadic growth) index set.sporadics in
    let same = length-changed_at (longer_sporadic growth) index set.sporadics in
    let all = list_all-changed_at sporadic_in_range (longer_sporadic growth) index set.sporadics sporadics (λ s at passes. longer_sporadic-in_range s growth passes (
    let wcet : wcet_at set (SporadicPart index) ≡ s.wcet = rw at refl in
    omega arith)) in
    and_from _ (list_all sporadic_in_range longer) (and_from _ (nat_le (length longer) SPORADIC_LIMIT) listed (rw same few)) all

-- a sound set that is grown within the limit is sound
pub grown-sound : (set : TaskSet) (part : Part) (growth : ℕ) → is_sound set ≡ true → wcet_at set part + growth ≤ SLOT_LIMIT → is_sound (grown set part growth) ≡ true
grown-sound set part growth sound low =
    let (ranges, faultless) = and_parts (is_in_range set) (is_none (set_fault set)) sound in
    let same = ap is_none (set_fault-same set (grown set part growth) (set-pairs set part growth)) in
    and_from (is_in_range (grown set part growth)) (is_none (set_fault (grown set part growth))) (grown-in_range set part growth ranges low) (sym same ∙ faultless)
