-- The set that has one graph of a sound set alone is sound, and has its cycle.
use Rattle.std.proofs.Common.{◌≡◌, ℕ, zero, suc, ◌+◌, ◌-◌, ◌*◌, ◌/◌, ◌%◌, ◌<◌, ◌≤◌, ◌==◌, Bool, true, false, List, [], ◌∷◌, length, map, Option, Some, None, refl, ap, ◌∙◌, subst, inl, inr, arith}
use Rattle.std.specs.Prelude.{find, nat_le, is_none, slice_get, option_map}
use Rattle.std.specs.Option.{option_or}
use Rattle.std.specs.List.{list_all, list_any, range_with_len}
use Rattle.std.specs.Str.{bytes_eq}
use Rattle.std.proofs.Math.Nat.{mul_comm, mul-add, one-le-mul, mod_self, mod-eq_of_lt, mul-le-mul_left, mul-le-mul_right}
use Rattle.std.proofs.lemmas.Bool.{and_parts, and_from, le-leb, le-ltb, eq-eqb, ne_eqb, cases_eq}
use Rattle.slot_core.specs.declared.TheConstants.{GRAPH_LIMIT, TASK_LIMIT, SPORADIC_LIMIT, SLOT_LIMIT, SOFT_LIMIT}
use Rattle.slot_core.specs.declared.faults.Part.{Part}
use Rattle.slot_core.specs.declared.faults.Part.TheVariants.{Graph as GraphPart, Task as TaskPart, Sporadic as SporadicPart}
use Rattle.slot_core.specs.declared.faults.Field.TheVariants.{Name, After}
use Rattle.slot_core.specs.declared.faults.Place.{Place}
use Rattle.slot_core.specs.declared.faults.TaskFault.{TaskFault}
use Rattle.slot_core.specs.declared.faults.TaskFault.TheVariants.{Doubled, NoSuchTask, Loop, CycleTooLong}
use Rattle.slot_core.specs.declared.tasks.Task.{Task}
use Rattle.slot_core.specs.declared.tasks.Graph.{Graph}
use Rattle.slot_core.specs.declared.tasks.Sporadic.{Sporadic}
use Rattle.slot_core.specs.declared.tasks.TaskSet.{TaskSet}
use Rattle.slot_core.specs.Offline.Precedence.{is_on_loop}
use Rattle.slot_core.specs.Sets.Cycles.{least_common_multiple, cycle_lengths, cycle_of, first_multiple_above}
use Rattle.slot_core.specs.Sets.Names.{is_name}
use Rattle.slot_core.specs.Sets.Faults.{fault_if, first_fault, names_fault, graph_names_fault, entries_fault, task_fault, after_fault, loop_fault, set_fault}
use Rattle.slot_core.specs.Sets.Ranges.{is_between, task_in_range, graph_in_range, sporadic_in_range, is_in_range, is_sound}
use Rattle.slot_facts.proofs.Offline.Jobs.{graph_in_range-from_sound, cycle-multiple, cycle-positive, cycle-at_most}
use Rattle.slot_facts.proofs.Sets.Faults.{None-from_is_none, option_or-None, option_map-None, fault_if-None, first_fault-None}
use Rattle.slot_facts.proofs.Sets.Ranges.{bounds, GraphRanges-from_test, SetRanges-from_sound}
use Rattle.margin_find.specs.Kept.{once_a_cycle, alone}

-- a search finds the first number that passes
find-first : (p : ℕ → Bool) (a n k : ℕ) → a ≤ k → k < a + n → ((m : ℕ) → a ≤ m → m < k → p m ≡ false) → p k ≡ true → find p (range_with_len a n) ≡ Some k
find-first p a zero k low high fails passes = absurd (omega arith)
find-first p a (suc n) k low high fails passes =
    let later = find-first p (a + 1) n k in
    elim (cases_eq a k) [
      | inl same ↦ rw (same, passes) refl
      | inr other ↦
          let first : p a ≡ false = fails a (omega arith) (omega arith) in
          rw first (later (omega arith) (omega arith) (λ m l h. fails m (omega arith) h) passes)
    ]

-- the least common multiple of a number and a multiple of it is the multiple
product-mod : (a m q : ℕ) → 1 ≤ a → 1 ≤ m → m < q → ((a * m) % (a * q) == 0) ≡ false
product-mod a m q some positive less =
    let most : a * (m + 1) ≤ a * q = mul-le-mul_left a (omega arith) in
    let once : a * 1 ≡ a = omega arith in
    let each : a * (m + 1) ≡ a * m + a = mul-add a m 1 ∙ ap (λ n. a * m + n) once in
    let rest : (a * m) % (a * q) ≡ a * m = mod-eq_of_lt (omega (arith, most, each, some)) in
    ne_eqb ((a * m) % (a * q)) 0 (λ e. omega (arith, e, rest, one-le-mul some positive))

multiple-itself : (a q : ℕ) → 1 ≤ a → 1 ≤ q → least_common_multiple a (a * q) ≡ a * q
multiple-itself a q some positive =
    let once : 1 * q ≡ q = omega arith in
    let most : 1 * q ≤ a * q = mul-le-mul_right q some in
    let even : ((a * q) % (a * q) == 0) ≡ true = eq-eqb ((a * q) % (a * q)) 0 (mod_self (a * q)) in
    let found = find-first (λ n. (a * n) % (a * q) == 0) 1 (a * q) q positive (omega (arith, most, once)) (λ m low high. product-mod a m q some low high) even in
    rw found refl

-- names without faults have none in any part
names_fault-other : (part other : ℕ → Part) (earlier : List (List ℕ)) (n m : ℕ) (names : List (List ℕ)) → names_fault part earlier n names ≡ None → names_fault other earlier m names ≡ None
names_fault-other part other earlier n m [] none = refl
names_fault-other part other earlier n m (name ∷ names) none =
    let parts = option_or-None (fault_if (list_any (bytes_eq name) earlier) (Doubled (record { part = part n; field = Name }))) (names_fault part (name ∷ earlier) (n + 1) names) none in
    let new = fault_if-None (list_any (bytes_eq name) earlier) (Doubled (record { part = part n; field = Name })) parts.0 in
    let later = names_fault-other part other (name ∷ earlier) (n + 1) (m + 1) names parts.1 in
    rw (new, later) refl

-- so have entries at any place
entries_fault-other : (place other : Place) (count : ℕ) (earlier entries : List ℕ) → entries_fault place count earlier entries ≡ None → entries_fault other count earlier entries ≡ None
entries_fault-other place other count earlier [] none = refl
entries_fault-other place other count earlier (a ∷ more) none =
    let again = fault_if (list_any (λ e. a == e) earlier) (Doubled place) in
    let rest = entries_fault place count (a ∷ earlier) more in
    let parts = option_or-None (fault_if (nat_le count a) (NoSuchTask place)) (option_or again rest) none in
    let named = fault_if-None (nat_le count a) (NoSuchTask place) parts.0 in
    let both = option_or-None again rest parts.1 in
    let new = fault_if-None (list_any (λ e. a == e) earlier) (Doubled place) both.0 in
    let later = entries_fault-other place other count (a ∷ earlier) more both.1 in
    rw (named, new, later) refl

task_faults-other : (g other count n : ℕ) (tasks : List Task) → first_fault (task_fault g count) n tasks ≡ None → first_fault (task_fault other count) n tasks ≡ None
task_faults-other g other count n [] none = refl
task_faults-other g other count n (t ∷ ts) none =
    let parts = option_or-None (task_fault g count n t) (first_fault (task_fault g count) (n + 1) ts) none in
    let here : task_fault other count n t ≡ None = entries_fault-other (record { part = TaskPart g n; field = After }) (record { part = TaskPart other n; field = After }) count [] t.after parts.0 in
    let later = task_faults-other g other count (n + 1) ts parts.1 in
    rw (here, later) refl

loop_fault-other : (g other : ℕ) (graph : Graph) → loop_fault g graph ≡ None → loop_fault other graph ≡ None
loop_fault-other g other graph none =
    ap (option_map (Loop other)) (option_map-None (Loop g) (find (is_on_loop graph.tasks) (range_with_len 0 (length graph.tasks))) none)

-- the names of the tasks of a graph of a set whose names have no fault
task_names-None : (earlier : List (List ℕ)) (n : ℕ) (graphs : List Graph) (k i : ℕ) (graph : Graph) → graph_names_fault earlier n graphs ≡ None → slice_get graphs k ≡ Some graph → n + k ≡ i → names_fault (TaskPart i) [] 0 (map (λ (t : Task). t.name) graph.tasks) ≡ None
task_names-None earlier n [] k i graph none at place = absurd (cc at)
task_names-None earlier n (x ∷ xs) zero i graph none at place =
    let own = fault_if (list_any (bytes_eq x.name) earlier) (Doubled (record { part = GraphPart n; field = Name })) in
    let names = names_fault (TaskPart n) [] 0 (map (λ (t : Task). t.name) x.tasks) in
    let rest = graph_names_fault (x.name ∷ earlier) (n + 1) xs in
    let parts = option_or-None names rest (option_or-None own (option_or names rest) none).1 in
    let same : x ≡ graph = cc at in
    let index : n ≡ i = omega arith in
    let here = parts.0 in
    rw (← same, ← index) here
task_names-None earlier n (x ∷ xs) (suc k) i graph none at place =
    let own = fault_if (list_any (bytes_eq x.name) earlier) (Doubled (record { part = GraphPart n; field = Name })) in
    let names = names_fault (TaskPart n) [] 0 (map (λ (t : Task). t.name) x.tasks) in
    let rest = graph_names_fault (x.name ∷ earlier) (n + 1) xs in
    let parts = option_or-None names rest (option_or-None own (option_or names rest) none).1 in
    task_names-None (x.name ∷ earlier) (n + 1) xs k i graph parts.1 at (omega arith)

-- a graph of a sound set has no fault, at any place
record HasNoFault (graph : Graph) (place : ℕ) : Type 0 where
  names : names_fault (TaskPart place) [] 0 (map (λ (t : Task). t.name) graph.tasks) ≡ None
  entries : after_fault place graph ≡ None
  loops : loop_fault place graph ≡ None

HasNoFault-from_sound : (set : TaskSet) (g : ℕ) (graph : Graph) (place : ℕ) → is_sound set ≡ true → slice_get set.graphs g ≡ Some graph → HasNoFault graph place
HasNoFault-from_sound set g graph place sound at =
    let names = graph_names_fault [] 0 set.graphs in
    let sporadic_names = names_fault SporadicPart [] 0 (map (λ (s : Sporadic). s.name) set.sporadics) in
    let entries = first_fault after_fault 0 set.graphs in
    let loops = first_fault loop_fault 0 set.graphs in
    let above = option_map CycleTooLong (first_multiple_above SLOT_LIMIT 1 (cycle_lengths set)) in
    let (_, faultless) = and_parts (is_in_range set) (is_none (set_fault set)) sound in
    let (named, after_names) = option_or-None names (option_or sporadic_names (option_or entries (option_or loops above))) (None-from_is_none (set_fault set) faultless) in
    let (_, after_sporadics) = option_or-None sporadic_names (option_or entries (option_or loops above)) after_names in
    let (entered, after_entries) = option_or-None entries (option_or loops above) after_sporadics in
    let (loopless, _) = option_or-None loops above after_entries in
    record {
      names = names_fault-other (TaskPart g) (TaskPart place) [] 0 0 (map (λ (t : Task). t.name) graph.tasks) (task_names-None [] 0 set.graphs g g graph named at (omega arith));
      entries = task_faults-other g place (length graph.tasks) 0 graph.tasks (first_fault-None after_fault 0 set.graphs g g graph entered at (omega arith));
      loops = loop_fault-other g place graph (first_fault-None loop_fault 0 set.graphs g g graph loopless at (omega arith));
    }

-- the cycle is the period as many times as it goes into it
record HasCycle (graph : Graph) (cycle : ℕ) : Type 0 where
  period : 1 ≤ graph.period
  short : graph.period ≤ SLOT_LIMIT
  count : 1 ≤ cycle / graph.period
  whole : graph.period * (cycle / graph.period) ≡ cycle

HasCycle-from_sound : (set : TaskSet) (g : ℕ) (graph : Graph) → is_sound set ≡ true → slice_get set.graphs g ≡ Some graph → HasCycle graph (cycle_of set)
HasCycle-from_sound set g graph sound at =
    let ranges = GraphRanges-from_test graph (graph_in_range-from_sound set g graph sound at) in
    let period = bounds 1 SLOT_LIMIT graph.period ranges.period in
    let count = cycle_of set / graph.period in
    let whole : graph.period * count ≡ cycle_of set = mul_comm graph.period count ∙ cycle-multiple set g graph sound at in
    record {
      period = period.0;
      short = period.1;
      count = elim (cases_eq count 0) [
        | inl none ↦ let nothing = ap (λ n. graph.period * n) none in absurd (omega (arith, cycle-positive set sound, whole, nothing))
        | inr some ↦ omega arith
      ];
      whole = whole;
    }

-- the running multiples of the set that has a graph alone
lengths-alone : (graph : Graph) (cycle : ℕ) → HasCycle graph cycle → (least_common_multiple 1 graph.period ≡ graph.period) × (least_common_multiple graph.period cycle ≡ cycle)
lengths-alone graph cycle h =
    let count = cycle / graph.period in
    let one : 1 * graph.period ≡ graph.period = omega arith in
    let first : least_common_multiple 1 (1 * graph.period) ≡ 1 * graph.period = multiple-itself 1 graph.period (omega arith) h.period in
    let second : least_common_multiple graph.period (graph.period * count) ≡ graph.period * count = multiple-itself graph.period count h.period h.count in (
      subst (λ n. least_common_multiple 1 n ≡ n) one first,
      subst (λ n. least_common_multiple graph.period n ≡ n) h.whole second,
    )

pub cycle_of-alone : (set : TaskSet) (g : ℕ) (graph : Graph) (soft_limit : ℕ) → is_sound set ≡ true → slice_get set.graphs g ≡ Some graph → cycle_of (alone soft_limit (cycle_of set) graph) ≡ cycle_of set
cycle_of-alone set g graph soft_limit sound at =
    let lengths = lengths-alone graph (cycle_of set) (HasCycle-from_sound set g graph sound at) in
    ap (λ n. least_common_multiple n (cycle_of set)) lengths.0 ∙ lengths.1

short_lengths : (limit p c : ℕ) → least_common_multiple 1 p ≡ p → least_common_multiple p c ≡ c → p ≤ limit → c ≤ limit → first_multiple_above limit 1 (p ∷ c ∷ []) ≡ None
short_lengths limit p c first second low short =
    let one = le-ltb limit p low in
    let two = le-ltb limit c short in
    rw (first, one, second, two) refl

short-alone : (graph : Graph) (cycle : ℕ) → HasCycle graph cycle → cycle ≤ SLOT_LIMIT → first_multiple_above SLOT_LIMIT 1 (graph.period ∷ cycle ∷ []) ≡ None
short-alone graph cycle h short =
    let lengths = lengths-alone graph cycle h in
    short_lengths SLOT_LIMIT graph.period cycle lengths.0 lengths.1 h.short short

-- it has no fault
no_fault : (a b c d e : Option TaskFault) → a ≡ None → b ≡ None → c ≡ None → d ≡ None → e ≡ None → option_or a (option_or b (option_or c (option_or d e))) ≡ None
no_fault None None None None None p q r s t = refl
no_fault (Some f) b c d e p q r s t = absurd (cc p)
no_fault None (Some f) c d e p q r s t = absurd (cc q)
no_fault None None (Some f) d e p q r s t = absurd (cc r)
no_fault None None None (Some f) e p q r s t = absurd (cc s)
no_fault None None None None (Some f) p q r s t = absurd (cc t)

option_or-none : (a b : Option TaskFault) → a ≡ None → b ≡ None → option_or a b ≡ None
option_or-none None None p q = refl
option_or-none (Some f) b p q = absurd (cc p)
option_or-none None (Some f) p q = absurd (cc q)

faultless-alone : (graph : Graph) (cycle soft_limit : ℕ) → HasNoFault graph 0 → first_multiple_above SLOT_LIMIT 1 (graph.period ∷ cycle ∷ []) ≡ None → set_fault (alone soft_limit cycle graph) ≡ None
faultless-alone graph cycle soft_limit none short =
    let one = alone soft_limit cycle graph in
    no_fault
    (graph_names_fault [] 0 one.graphs)
    (names_fault SporadicPart [] 0 (map (λ (s : Sporadic). s.name) one.sporadics))
    (first_fault after_fault 0 one.graphs)
    (first_fault loop_fault 0 one.graphs)
    (option_map CycleTooLong (first_multiple_above SLOT_LIMIT 1 (cycle_lengths one)))
    (option_or-none (names_fault (TaskPart 0) [] 0 (map (λ (t : Task). t.name) graph.tasks)) None none.names refl)
    refl
    (option_or-none (after_fault 0 graph) None none.entries refl)
    (option_or-none (loop_fault 0 graph) None none.loops refl)
    (ap (option_map CycleTooLong) short)

-- and its numbers are in range
between : (low high n : ℕ) → low ≤ n → n ≤ high → is_between low high n ≡ true
between low high n least most =
    and_from (nat_le low n) (nat_le n high) (le-leb low n least) (le-leb n high most)

once_a_cycle-in_range : (name : List ℕ) (cycle : ℕ) → is_name name ≡ true → 1 ≤ cycle → cycle ≤ SLOT_LIMIT → sporadic_in_range (once_a_cycle name cycle) ≡ true
once_a_cycle-in_range name cycle named some short =
    and_from _ (is_between 1 cycle 1) (and_from _ (is_between 1 SLOT_LIMIT cycle) (and_from (is_name name) (is_between 1 SLOT_LIMIT 1) named (between 1 SLOT_LIMIT 1 (omega arith) (omega arith))) (between 1 SLOT_LIMIT cycle some short)) (between 1 cycle 1 (omega arith) some)

name-in_range : (graph : Graph) → graph_in_range graph ≡ true → is_name graph.name ≡ true
name-in_range graph h =
    let (counted, _) = and_parts _ (list_all task_in_range graph.tasks) h in
    let (due, _) = and_parts _ (is_between 1 TASK_LIMIT (length graph.tasks)) counted in
    let (released, _) = and_parts _ (is_between 1 (graph.period - graph.offset) graph.deadline) due in
    let (repeated, _) = and_parts _ (is_between 0 (graph.period - 1) graph.offset) released in
    (and_parts (is_name graph.name) (is_between 1 SLOT_LIMIT graph.period) repeated).0

in_range-alone : (graph : Graph) (cycle soft_limit : ℕ) → graph_in_range graph ≡ true → 1 ≤ soft_limit → soft_limit ≤ SOFT_LIMIT → 1 ≤ cycle → cycle ≤ SLOT_LIMIT → is_in_range (alone soft_limit cycle graph) ≡ true
in_range-alone graph cycle soft_limit fits some few positive short =
    let keeper = once_a_cycle graph.name cycle in
    let one = and_from (graph_in_range graph) true fits refl in
    let other = and_from (sporadic_in_range keeper) true (once_a_cycle-in_range graph.name cycle (name-in_range graph fits) positive short) refl in
    and_from _ (list_all sporadic_in_range (keeper ∷ [])) (and_from _ (nat_le 1 SPORADIC_LIMIT) (and_from _ (list_all graph_in_range (graph ∷ [])) (and_from (is_between 1 SOFT_LIMIT soft_limit) (is_between 1 GRAPH_LIMIT 1) (between 1 SOFT_LIMIT soft_limit some few) (between 1 GRAPH_LIMIT 1 (omega arith) (omega arith))) one) (le-leb 1 SPORADIC_LIMIT (omega arith))) other

pub is_sound-alone : (set : TaskSet) (g : ℕ) (graph : Graph) → is_sound set ≡ true → slice_get set.graphs g ≡ Some graph → is_sound (alone set.soft_limit (cycle_of set) graph) ≡ true
is_sound-alone set g graph sound at =
    let cycle = cycle_of set in
    let one = alone set.soft_limit cycle graph in
    let fits = graph_in_range-from_sound set g graph sound at in
    let ranges = SetRanges-from_sound set sound in
    let short = cycle-at_most set sound in
    let none = faultless-alone graph cycle set.soft_limit (HasNoFault-from_sound set g graph 0 sound at) (short-alone graph cycle (HasCycle-from_sound set g graph sound at) short) in
    and_from (is_in_range one) (is_none (set_fault one)) (in_range-alone graph cycle set.soft_limit fits ranges.soft.0 ranges.soft.1 (cycle-positive set sound) short) (ap is_none none)
