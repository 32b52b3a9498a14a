-- The jobs of one cycle are due in it, and its demand as a whole is their declared slots and the densest arrivals.
use Rattle.std.proofs.Common.{◌≡◌, ℕ, ◌+◌, ◌*◌, ◌/◌, ◌<◌, ◌≤◌, true, List, [], ◌∷◌, length, get_or, refl, ap, ◌∙◌, arith}
use Rattle.std.specs.Prelude.{All, sum_by, flat_map, nat_le, nat_lt, ◌&&◌, if◌then◌else◌}
use Rattle.std.specs.List.{range_with_len, enumerate_from}
use Rattle.std.proofs.Math.Nat.{mul-le-mul_right, div-mul-le_self}
use Rattle.std.proofs.lemmas.Bool.{le-leb, le-ltb, and_from}
use Rattle.std.proofs.lemmas.List.Elements.{All-nil, All-head, All-tail, All-append, All-map}
use Rattle.std.proofs.lemmas.List.FromFn.{length-range_with_len, get_or-range_with_len, length-enumerate_from, get_or-enumerate_from}
use Rattle.slot_core.specs.declared.jobs.RawJob.{RawJob}
use Rattle.slot_core.specs.declared.jobs.Job.{Job}
use Rattle.slot_core.specs.declared.tasks.Sporadic.{Sporadic}
use Rattle.slot_core.specs.declared.tasks.Task.{Task}
use Rattle.slot_core.specs.declared.tasks.Graph.{Graph}
use Rattle.slot_core.specs.declared.tasks.TaskSet.{TaskSet}
use Rattle.slot_core.specs.Offline.OfflineJobs.{raw_job, deadline_of, instance_jobs, graph_jobs, raw_jobs, derived_job, cycle_jobs}
use Rattle.slot_core.specs.Feasibility.Sporadics.{sporadic_demand}
use Rattle.slot_core.specs.Feasibility.Feasible.{declared_within, window_demand, demand}
use Rattle.slot_core.specs.Sets.Ranges.{graph_in_range, is_sound}
use Rattle.demand_test.specs.Totals.{graph_work}
use Rattle.slot_facts.proofs.Sets.Ranges.{GraphFits-from_test}
use Rattle.slot_facts.proofs.Sets.Sizes.{graphs-from_sound}
use Rattle.slot_facts.proofs.Lists.Sums.{sum_by-map, sum_by-flat_map, sum_by-enumerate_from, sum_by-constant, sum_by-agree}

-- the slots of the jobs that a graph releases in a cycle
graph_jobs-slots : (cycle n : ℕ) (i : ℕ × Graph) → sum_by (λ (raw : RawJob). raw.wcet) (graph_jobs cycle n i) ≡ graph_work cycle i.1
graph_jobs-slots cycle n (g, graph) =
    let count = cycle / graph.period in
    let slots = sum_by (λ (t : Task). t.wcet) graph.tasks in
    let range = range_with_len (n * count) count in
    let instance = λ (k : ℕ). sum_by-map (λ (raw : RawJob). raw.wcet) (raw_job g graph k) (enumerate_from 0 graph.tasks) ∙ sum_by-enumerate_from (λ (t : Task). t.wcet) 0 graph.tasks in
    sum_by-flat_map (λ (raw : RawJob). raw.wcet) (instance_jobs g graph) range
    ∙ sum_by-agree (λ k. sum_by (λ (raw : RawJob). raw.wcet) (instance_jobs g graph k)) (λ _. slots) range (λ i d _. instance (get_or range i d))
    ∙ sum_by-constant slots range
    ∙ ap (λ m. m * slots) (length-range_with_len (n * count) count)

pub cycle_jobs-slots : (set : TaskSet) (cycle n : ℕ) → sum_by (λ (j : Job). j.declared) (cycle_jobs set cycle n) ≡ sum_by (graph_work cycle) set.graphs
cycle_jobs-slots set cycle n =
    let graphs = enumerate_from 0 set.graphs in
    sum_by-map (λ (j : Job). j.declared) (derived_job set) (raw_jobs set cycle n)
    ∙ sum_by-flat_map (λ (raw : RawJob). raw.wcet) (graph_jobs cycle n) graphs
    ∙ sum_by-agree (λ i. sum_by (λ (raw : RawJob). raw.wcet) (graph_jobs cycle n i)) (λ i. graph_work cycle i.1) graphs (λ i d _. graph_jobs-slots cycle n (get_or graphs i d))
    ∙ sum_by-enumerate_from (graph_work cycle) 0 set.graphs

-- an instance of the cycle is due in it
due_in_cycle : (cycle k : ℕ) (graph : Graph) → graph.offset + graph.deadline ≤ graph.period → k < cycle / graph.period → deadline_of graph k ≤ cycle
due_in_cycle cycle k graph within low =
    let upto : (k + 1) * graph.period ≤ (cycle / graph.period) * graph.period = mul-le-mul_right graph.period (omega arith) in
    omega (arith, div-mul-le_self cycle graph.period)

All-flat_map : {X Y : Type 0} (P : Y → Type 0) (f : X → List Y) (xs : List X) → All (λ x. All P (f x)) xs → All P (flat_map f xs)
All-flat_map P f [] each = All-nil P
All-flat_map P f (x ∷ xs) each =
    All-append P (f x) (flat_map f xs) (All-head (λ x. All P (f x)) x xs each) (All-flat_map P f xs (All-tail (λ x. All P (f x)) x xs each))

graph_jobs-within : (cycle : ℕ) (i : ℕ × Graph) → graph_in_range i.1 ≡ true → All (λ (raw : RawJob). raw.deadline ≤ cycle) (graph_jobs cycle 0 i)
graph_jobs-within cycle (g, graph) h =
    let count = cycle / graph.period in
    let within = (GraphFits-from_test graph h).within in
    All-flat_map (λ (raw : RawJob). raw.deadline ≤ cycle) (instance_jobs g graph) (range_with_len (0 * count) count) (λ i d low.
    let short : i < count = omega (arith, length-range_with_len (0 * count) count) in
    let place = get_or-range_with_len (0 * count) count i d short in
    let k = get_or (range_with_len (0 * count) count) i d in
    let due : deadline_of graph k ≤ cycle = due_in_cycle cycle k graph within (omega arith) in
    All-map (λ (raw : RawJob). raw.deadline ≤ cycle) (raw_job g graph k) (enumerate_from 0 graph.tasks) (λ _ _ _. due))

-- the jobs of the first cycle are due in it
pub cycle_jobs-within : (set : TaskSet) (cycle : ℕ) → is_sound set ≡ true → All (λ (j : Job). j.dl ≤ cycle) (cycle_jobs set cycle 0)
cycle_jobs-within set cycle sound =
    let graphs = enumerate_from 0 set.graphs in
    let each = graphs-from_sound set sound in
    let raw = All-flat_map (λ (raw : RawJob). raw.deadline ≤ cycle) (graph_jobs cycle 0) graphs (λ i d low.
    let short : i < length set.graphs = omega (arith, length-enumerate_from 0 set.graphs) in
    let place = get_or-enumerate_from 0 set.graphs i d short in
    graph_jobs-within cycle (get_or graphs i d) (ap (λ p. graph_in_range p.1) place ∙ each i d.1 short)) in
    All-map (λ (j : Job). j.dl ≤ cycle) (derived_job set) (raw_jobs set cycle 0) (λ i d low.
    let due = raw i d low in
    omega arith)

-- jobs that are due in the cycle all count in the window of the whole cycle
pub window_demand-cycle : (jobs : List Job) (ss : List Sporadic) (cycle : ℕ) → All (λ (j : Job). j.dl ≤ cycle) jobs → window_demand jobs ss cycle 0 cycle ≡ sum_by (λ (j : Job). j.declared) jobs + sporadic_demand ss [] 0 cycle
window_demand-cycle jobs ss cycle within =
    let all = sum_by-agree (λ (j : Job). if nat_le 0 (j.est + 0) && nat_le (j.dl + 0) cycle then j.declared else 0) (λ (j : Job). j.declared) jobs (λ k d low.
    let j = get_or jobs k d in
    let due = within k d low in
    ap (λ b. if b then j.declared else 0) (and_from (nat_le 0 (j.est + 0)) (nat_le (j.dl + 0) cycle) (le-leb 0 (j.est + 0) (omega arith)) (le-leb (j.dl + 0) cycle (omega arith)))) in
    let none : ◌≡◌ {A = ℕ} (if nat_lt cycle cycle then declared_within jobs cycle 0 cycle else 0) 0 = rw (le-ltb cycle cycle (omega arith)) refl in
    omega arith

-- the demand of the whole cycle
pub demand-cycle : (set : TaskSet) (cycle : ℕ) → is_sound set ≡ true → demand set cycle 0 cycle ≡ sum_by (graph_work cycle) set.graphs + sporadic_demand set.sporadics [] 0 cycle
demand-cycle set cycle sound =
    window_demand-cycle (cycle_jobs set cycle 0) set.sporadics cycle (cycle_jobs-within set cycle sound)
    ∙ ap (λ n. n + sporadic_demand set.sporadics [] 0 cycle) (cycle_jobs-slots set cycle 0)
