-- Which jobs the offline jobs of a set are.
use Rattle.std.proofs.Common.{◌≡◌, ℕ, zero, suc, ◌+◌, ◌*◌, ◌/◌, ◌<◌, ◌≤◌, true, ◌==◌, [], length, map, Option, Some, None, refl, sym, ap, ◌∙◌, subst, inl, inr, arith, lt-ltb}
use Rattle.std.specs.Prelude.{Contains, slice_get, find, is_none, option_map, nat_lt}
use Rattle.std.specs.Option.{option_or, option_map_or}
use Rattle.std.specs.List.{list_any, range_with_len, enumerate_from}
use Rattle.std.proofs.Math.Nat.{zero-add, mul-le-mul_right}
use Rattle.std.proofs.lemmas.Bool.{cases_lt, and_parts, false≢true, eqb-true, and_from}
use Rattle.std.proofs.lemmas.Option.{slice_get_within}
use Rattle.std.proofs.lemmas.List.Elements.{Contains-append_left, Contains-append_right, Contains-append_cases}
use Rattle.slot_core.specs.declared.TheConstants.{SLOT_LIMIT}
use Rattle.slot_core.specs.declared.jobs.RawJob.{RawJob}
use Rattle.slot_core.specs.declared.jobs.Job.{Job}
use Rattle.slot_core.specs.declared.tasks.Task.{Task}
use Rattle.slot_core.specs.declared.tasks.Graph.{Graph}
use Rattle.slot_core.specs.declared.tasks.Sporadic.{Sporadic}
use Rattle.slot_core.specs.declared.tasks.TaskSet.{TaskSet}
use Rattle.slot_core.specs.declared.faults.Part.TheVariants.{Task as TaskPart, Sporadic as SporadicPart}
use Rattle.slot_core.specs.declared.faults.Field.TheVariants.{After}
use Rattle.slot_core.specs.declared.faults.Place.{Place}
use Rattle.slot_core.specs.declared.faults.TaskFault.TheVariants.{Loop, CycleTooLong}
use Rattle.slot_core.specs.Sets.Cycles.{cycle_lengths, cycle_of, first_multiple_above}
use Rattle.slot_core.specs.Sets.Faults.{first_fault, entries_fault, graph_names_fault, names_fault, after_fault, loop_fault, set_fault}
use Rattle.slot_core.specs.Sets.Ranges.{is_in_range, is_sound, graph_in_range, task_in_range, sporadic_in_range}
use Rattle.slot_core.specs.Offline.OfflineJobs.{raw_job, instance_jobs, graph_jobs, raw_jobs, derived_job, tasks_of, cycle_jobs, offline_jobs}
use Rattle.slot_core.specs.Offline.Precedence.{comes_after, is_on_loop}
use Rattle.slot_facts.proofs.Lists.Members.{Has, Has-from_Contains, Contains-from_Has, Has-append_left, Has-append_cases, Has-map, Has-map_cases, Has-flat_map, Has-flat_map_cases, Has-range_with_len, Has-range_with_len_bounds, Has-enumerate_from, Has-enumerate_from_at, Has-from_list_any, Has-from_slice_get, passes_from_list_all}
use Rattle.slot_facts.proofs.Offline.Chains.{HasNoLoop}
use Rattle.slot_facts.proofs.Sets.Ranges.{bounds, GraphRanges-from_test, SporadicRanges-from_test, SetRanges-from_sound}
use Rattle.slot_facts.proofs.Sets.Faults.{None-from_is_none, option_or-None, option_map-None, find-None, first_fault-None, below-from_entries}
use Rattle.slot_facts.proofs.Offline.CycleMultiples.{div-mul-IsMultiple, IsMultiple-fold, fold_least_common_multiple-positive, fold_least_common_multiple-le}
use Rattle.slot_core.specs.declared.jobs.Key.TheVariants.{Offline}
use Rattle.slot_core.specs.Runs.Arrivals.{key_in_set}

-- a task of a graph of the set, and an instance of it
pub record IsInstance (set : TaskSet) (job : Job) (g t k : ℕ) (graph : Graph) (task : Task) : Type 0 where
  pub graph_at : slice_get set.graphs g ≡ Some graph
  pub task_at : slice_get graph.tasks t ≡ Some task
  pub derived : job ≡ derived_job set (raw_job g graph k (t, task))

-- the job is the derived job of such an instance, of one of the first n instances of its graph
pub record IsOfflineJob (set : TaskSet) (cycle from cycles : ℕ) (job : Job) : Type 0 where
  pub g : ℕ
  pub t : ℕ
  pub k : ℕ
  pub graph : Graph
  pub task : Task
  pub instance_of : IsInstance set job g t k graph task
  pub at_least : from * (cycle / graph.period) ≤ k
  pub below : k < (from + cycles) * (cycle / graph.period)

-- the raw jobs of an instance are those of the tasks of its graph
instance_job-listed : (g t k : ℕ) (graph : Graph) (task : Task) → slice_get graph.tasks t ≡ Some task → Has (instance_jobs g graph k) (raw_job g graph k (t, task))
instance_job-listed g t k graph task at =
    Has-map
    (raw_job g graph k)
    (enumerate_from 0 graph.tasks)
    (t, task)
    (Has-enumerate_from 0 graph.tasks t t task (omega arith) at)

instance_job-task : (g k : ℕ) (graph : Graph) (raw : RawJob) → Has (instance_jobs g graph k) raw → (t : ℕ) × (task : Task) × (slice_get graph.tasks t ≡ Some task) × (raw_job g graph k (t, task) ≡ raw)
instance_job-task g k graph raw h =
    let (i, listed, is) = Has-map_cases (raw_job g graph k) (enumerate_from 0 graph.tasks) raw h in
    let (t, place, at) = Has-enumerate_from_at 0 graph.tasks i.0 i.1 listed in
    (i.0, i.1, rw (← place, zero-add) at, is)

-- the raw jobs of a cycle are those of the instances that it releases
raw_job-listed : (set : TaskSet) (cycle n g t k : ℕ) (graph : Graph) (task : Task) → slice_get set.graphs g ≡ Some graph → slice_get graph.tasks t ≡ Some task → n * (cycle / graph.period) ≤ k → k < (n + 1) * (cycle / graph.period) → Has (raw_jobs set cycle n) (raw_job g graph k (t, task))
raw_job-listed set cycle n g t k graph task graph_at task_at low high =
    let count = cycle / graph.period in
    Has-flat_map
    (graph_jobs cycle n)
    (enumerate_from 0 set.graphs)
    (g, graph)
    (raw_job g graph k (t, task))
    (Has-enumerate_from 0 set.graphs g g graph (omega arith) graph_at)
    (Has-flat_map
    (instance_jobs g graph)
    (range_with_len (n * count) count)
    k
    (raw_job g graph k (t, task))
    (Has-range_with_len (n * count) count k low (omega arith))
    (instance_job-listed g t k graph task task_at))

graph_job-instance : (cycle n g : ℕ) (graph : Graph) (raw : RawJob) → Has (graph_jobs cycle n (g, graph)) raw → (k : ℕ) × (n * (cycle / graph.period) ≤ k) × (k < (n + 1) * (cycle / graph.period)) × Has (instance_jobs g graph k) raw
graph_job-instance cycle n g graph raw h =
    let count = cycle / graph.period in
    let (k, listed, at) = Has-flat_map_cases (instance_jobs g graph) (range_with_len (n * count) count) raw h in
    let bounds = Has-range_with_len_bounds (n * count) count k listed in
    (k, bounds.0, omega (arith, bounds.1), at)

raw_job-graph : (set : TaskSet) (cycle n : ℕ) (raw : RawJob) → Has (raw_jobs set cycle n) raw → (g : ℕ) × (graph : Graph) × (slice_get set.graphs g ≡ Some graph) × Has (graph_jobs cycle n (g, graph)) raw
raw_job-graph set cycle n raw h =
    let (i, listed, at) = Has-flat_map_cases (graph_jobs cycle n) (enumerate_from 0 set.graphs) raw h in
    let (g, place, graph_at) = Has-enumerate_from_at 0 set.graphs i.0 i.1 listed in
    (i.0, i.1, rw (← place, zero-add) graph_at, at)

-- the offline jobs of one cycle, and of the first cycles, are exactly these
pub offline_from_cycle : (set : TaskSet) (cycle n : ℕ) (job : Job) → Contains (cycle_jobs set cycle n) job → IsOfflineJob set cycle n 1 job
offline_from_cycle set cycle n job h =
    let (raw, listed, derived) = Has-map_cases (derived_job set) (raw_jobs set cycle n) job (Has-from_Contains (cycle_jobs set cycle n) job h) in
    let (g, graph, graph_at, in_graph) = raw_job-graph set cycle n raw listed in
    let (k, low, high, in_instance) = graph_job-instance cycle n g graph raw in_graph in
    let (t, task, task_at, is) = instance_job-task g k graph raw in_instance in
    record {
      g = g;
      t = t;
      k = k;
      graph = graph;
      task = task;
      instance_of = record { graph_at = graph_at; task_at = task_at; derived = sym (ap (derived_job set) is ∙ derived) };
      at_least = low;
      below = high;
    }

pub cycle_from_offline : (set : TaskSet) (cycle n : ℕ) (job : Job) → IsOfflineJob set cycle n 1 job → Contains (cycle_jobs set cycle n) job
cycle_from_offline set cycle n job h =
    let raw = raw_job h.g h.graph h.k (h.t, h.task) in
    let listed = raw_job-listed set cycle n h.g h.t h.k h.graph h.task h.instance_of.graph_at h.instance_of.task_at h.at_least h.below in
    Contains-from_Has
    (cycle_jobs set cycle n)
    job
    (subst (Has (cycle_jobs set cycle n)) (sym h.instance_of.derived) (Has-map (derived_job set) (raw_jobs set cycle n) raw listed))

-- an offline job of some cycles is one of others in which its instance is released
IsOfflineJob-other_cycles : (set : TaskSet) (cycle a m b n : ℕ) (job : Job) (h : IsOfflineJob set cycle a m job) → b * (cycle / h.graph.period) ≤ h.k → h.k < (b + n) * (cycle / h.graph.period) → IsOfflineJob set cycle b n job
IsOfflineJob-other_cycles set cycle a m b n job h low high =
    record {
      g = h.g;
      t = h.t;
      k = h.k;
      graph = h.graph;
      task = h.task;
      instance_of = h.instance_of;
      at_least = low;
      below = high;
    }

IsOfflineJob-wider : (set : TaskSet) (cycle a m n : ℕ) (job : Job) → a + m ≤ n → IsOfflineJob set cycle a m job → IsOfflineJob set cycle 0 n job
IsOfflineJob-wider set cycle a m n job fits h =
    let count = cycle / h.graph.period in
    let most : (a + m) * count ≤ n * count = mul-le-mul_right count fits in
    IsOfflineJob-other_cycles set cycle a m 0 n job h (omega arith) (omega (arith, h.below))

pub offline_from_cycles : (set : TaskSet) (cycle n : ℕ) (job : Job) → Contains (offline_jobs set cycle n) job → IsOfflineJob set cycle 0 n job
offline_from_cycles set cycle zero job h = absurd (omega (arith, h.1))
offline_from_cycles set cycle (suc n) job h =
    let before = offline_from_cycles set cycle n job in
    elim (Contains-append_cases (offline_jobs set cycle n) (cycle_jobs set cycle n) job h) [
      | inl a ↦ IsOfflineJob-wider set cycle 0 n (suc n) job (omega arith) (before a)
      | inr b ↦ IsOfflineJob-wider set cycle n 1 (suc n) job (omega arith) (offline_from_cycle set cycle n job b)
    ]

pub cycles_from_offline : (set : TaskSet) (cycle n : ℕ) (job : Job) → IsOfflineJob set cycle 0 n job → Contains (offline_jobs set cycle n) job
cycles_from_offline set cycle zero job h = absurd (omega (arith, h.below))
cycles_from_offline set cycle (suc n) job h =
    let before = cycles_from_offline set cycle n job in
    let count = cycle / h.graph.period in
    elim (cases_lt h.k (n * count)) [
      | inl low ↦ Contains-append_left (offline_jobs set cycle n) (cycle_jobs set cycle n) job (before (IsOfflineJob-other_cycles set cycle 0 (suc n) 0 n job h h.at_least (omega arith)))
      | inr high ↦ Contains-append_right (offline_jobs set cycle n) (cycle_jobs set cycle n) job (cycle_from_offline set cycle n job (IsOfflineJob-other_cycles set cycle 0 (suc n) n 1 job h high (omega (arith, h.below))))
    ]

-- a sound set has no fault of any kind
record IsFaultless (set : TaskSet) : Type 0 where
  named : first_fault after_fault 0 set.graphs ≡ None
  loopless : first_fault loop_fault 0 set.graphs ≡ None
  short : first_multiple_above SLOT_LIMIT 1 (cycle_lengths set) ≡ None

IsFaultless-from_sound : (set : TaskSet) → is_sound set ≡ true → IsFaultless set
IsFaultless-from_sound set sound =
    let names = graph_names_fault [] 0 set.graphs in
    let sporadic_names = names_fault SporadicPart [] 0 (map (λ (s : Sporadic). s.name) set.sporadics) in
    let entries = first_fault after_fault 0 set.graphs in
    let loops = first_fault loop_fault 0 set.graphs in
    let above = option_map CycleTooLong (first_multiple_above SLOT_LIMIT 1 (cycle_lengths set)) in
    let (_, faultless) = and_parts (is_in_range set) (is_none (set_fault set)) sound in
    let (_, after_names) = option_or-None names (option_or sporadic_names (option_or entries (option_or loops above))) (None-from_is_none (set_fault set) faultless) in
    let (_, after_sporadics) = option_or-None sporadic_names (option_or entries (option_or loops above)) after_names in
    let (named, after_entries) = option_or-None entries (option_or loops above) after_sporadics in
    let (loopless, not_above) = option_or-None loops above after_entries in
    record {
      named = named;
      loopless = loopless;
      short = option_map-None CycleTooLong (first_multiple_above SLOT_LIMIT 1 (cycle_lengths set)) not_above;
    }

-- what soundness says of a graph and of a task of it
pub graph_in_range-from_sound : (set : TaskSet) (g : ℕ) (graph : Graph) → is_sound set ≡ true → slice_get set.graphs g ≡ Some graph → graph_in_range graph ≡ true
graph_in_range-from_sound set g graph sound at =
    passes_from_list_all graph_in_range set.graphs graph (SetRanges-from_sound set sound).graphs (Has-from_slice_get set.graphs g graph at)

-- the parts of the ranges that are used below
period-positive : (graph : Graph) → graph_in_range graph ≡ true → 1 ≤ graph.period
period-positive graph h = (bounds 1 SLOT_LIMIT graph.period (GraphRanges-from_test graph h).period).0

separation-positive : (s : Sporadic) → sporadic_in_range s ≡ true → 1 ≤ s.separation
separation-positive s h = (bounds 1 SLOT_LIMIT s.separation (SporadicRanges-from_test s h).separation).0

pub task_in_range-from_sound : (set : TaskSet) (g t : ℕ) (graph : Graph) (task : Task) → is_sound set ≡ true → slice_get set.graphs g ≡ Some graph → slice_get graph.tasks t ≡ Some task → task_in_range task ≡ true
task_in_range-from_sound set g t graph task sound graph_at task_at =
    passes_from_list_all
    task_in_range
    graph.tasks
    task
    (GraphRanges-from_test graph (graph_in_range-from_sound set g graph sound graph_at)).tasks
    (Has-from_slice_get graph.tasks t task task_at)

-- where there are no tasks, none is on a loop
HasNoLoop-nil : HasNoLoop []
HasNoLoop-nil =
    record {
      loopless = λ t low. absurd (omega arith);
      named = λ t p after. absurd (false≢true after);
    }

-- the place of a task's `after` list
entries_place : ℕ → ℕ → Place
entries_place g t = record { part = TaskPart g t; field = After }

-- where `after` lists have no fault, each entry names a task
named_entry : (g : ℕ) (graph : Graph) (t p : ℕ) (o : Option Task) → slice_get graph.tasks t ≡ o → after_fault g graph ≡ None → list_any (λ a. a == p) (option_map_or (λ (task : Task). task.after) o []) ≡ true → (t < length graph.tasks) × (p < length graph.tasks)
unfolding entries_place
named_entry g graph t p None at none h = absurd (false≢true h)
named_entry g graph t p (Some task) at none h =
    let (a, listed, same) = Has-from_list_any (λ a. a == p) task.after h in
    let clean = first_fault-None
    (λ t (task : Task). entries_fault (entries_place g t) (length graph.tasks) [] task.after)
    0
    graph.tasks
    t
    t
    task
    none
    at
    (omega arith) in
    let below = below-from_entries (entries_place g t) (length graph.tasks) [] task.after a clean listed in
    (slice_get_within graph.tasks t task at, omega (arith, below, eqb-true a p same))

pub named-from_after_fault : (g : ℕ) (graph : Graph) → after_fault g graph ≡ None → (t p : ℕ) → comes_after graph.tasks t p ≡ true → (t < length graph.tasks) × (p < length graph.tasks)
named-from_after_fault g graph none t p h = named_entry g graph t p (slice_get graph.tasks t) refl none h

-- where `after` lists and loops have no fault, no task is on a loop
HasNoLoop-from_faults : (g : ℕ) (graph : Graph) → after_fault g graph ≡ None → loop_fault g graph ≡ None → HasNoLoop graph.tasks
HasNoLoop-from_faults g graph named loopless =
    let none = option_map-None (Loop g) (find (is_on_loop graph.tasks) (range_with_len 0 (length graph.tasks))) loopless in
    record {
      loopless = λ t low. find-None (is_on_loop graph.tasks) (range_with_len 0 (length graph.tasks)) t none (Has-range_with_len 0 (length graph.tasks) t (omega arith) (omega arith));
      named = named-from_after_fault g graph named;
    }

-- no task of a sound set is on a loop
pub HasNoLoop-from_sound : (set : TaskSet) (g : ℕ) → is_sound set ≡ true → HasNoLoop (tasks_of set g)
HasNoLoop-from_sound set g sound = go (slice_get set.graphs g) refl
  where
    go : (o : Option Graph) → slice_get set.graphs g ≡ o → HasNoLoop (option_map_or (λ (graph : Graph). graph.tasks) o [])
    go None at = HasNoLoop-nil
    go (Some graph) at =
        let faultless = IsFaultless-from_sound set sound in
        HasNoLoop-from_faults
        g
        graph
        (first_fault-None after_fault 0 set.graphs g g graph faultless.named at (omega arith))
        (first_fault-None loop_fault 0 set.graphs g g graph faultless.loopless at (omega arith))

-- each length of a cycle is at least 1
pub cycle_lengths-positive : (set : TaskSet) → is_sound set ≡ true → (n : ℕ) → Has (cycle_lengths set) n → 1 ≤ n
cycle_lengths-positive set sound n h =
    let ranges = SetRanges-from_sound set sound in
    let periods = map (λ (g : Graph). g.period) set.graphs in
    let separations = map (λ (s : Sporadic). s.separation) set.sporadics in
    elim (Has-append_cases periods separations n h) [
      | inl a ↦ let (graph, at, is) = Has-map_cases (λ (g : Graph). g.period) set.graphs n a in
          omega (arith, is, period-positive graph (passes_from_list_all graph_in_range set.graphs graph ranges.graphs at))
      | inr b ↦ let (sporadic, at, is) = Has-map_cases (λ (s : Sporadic). s.separation) set.sporadics n b in
          omega (arith, is, separation-positive sporadic (passes_from_list_all sporadic_in_range set.sporadics sporadic ranges.sporadics at))
    ]

-- the cycle is a multiple of each period, at least 1 and at most the limit
pub cycle-multiple : (set : TaskSet) (g : ℕ) (graph : Graph) → is_sound set ≡ true → slice_get set.graphs g ≡ Some graph → (cycle_of set / graph.period) * graph.period ≡ cycle_of set
cycle-multiple set g graph sound at =
    let periods = map (λ (g : Graph). g.period) set.graphs in
    let separations = map (λ (s : Sporadic). s.separation) set.sporadics in
    let listed = Has-append_left periods separations graph.period (Has-map (λ (g : Graph). g.period) set.graphs graph (Has-from_slice_get set.graphs g graph at)) in
    div-mul-IsMultiple
    graph.period
    (cycle_of set)
    (period-positive graph (graph_in_range-from_sound set g graph sound at))
    (IsMultiple-fold 1 graph.period (cycle_lengths set) (cycle_lengths-positive set sound) listed)

pub cycle-positive : (set : TaskSet) → is_sound set ≡ true → 1 ≤ cycle_of set
cycle-positive set sound =
    fold_least_common_multiple-positive 1 (cycle_lengths set) (omega arith) (cycle_lengths-positive set sound)

pub cycle-at_most : (set : TaskSet) → is_sound set ≡ true → cycle_of set ≤ SLOT_LIMIT
cycle-at_most set sound =
    fold_least_common_multiple-le SLOT_LIMIT 1 (cycle_lengths set) (omega arith) (IsFaultless-from_sound set sound).short

-- the key of an offline job lies in the set
pub offline-named : (set : TaskSet) (cycles : ℕ) (job : Job) → IsOfflineJob set (cycle_of set) 0 cycles job → key_in_set set job.key ≡ true
offline-named set cycles job offline =
    let key : job.key ≡ Offline offline.g offline.t offline.k = ap (λ (j : Job). j.key) offline.instance_of.derived in
    let tasks : tasks_of set offline.g ≡ offline.graph.tasks = ap (λ o. option_map_or (λ (g : Graph). g.tasks) o []) offline.instance_of.graph_at in
    let graph = lt-ltb offline.g (length set.graphs) (slice_get_within set.graphs offline.g offline.graph offline.instance_of.graph_at) in
    let task = lt-ltb offline.t (length offline.graph.tasks) (slice_get_within offline.graph.tasks offline.t offline.task offline.instance_of.task_at) in
    let both : key_in_set set (Offline offline.g offline.t offline.k) ≡ true = and_from (nat_lt offline.g (length set.graphs)) (nat_lt offline.t (length (tasks_of set offline.g))) graph (rw tasks task) in
    ap (key_in_set set) key ∙ both
