-- In a feasible set the jobs of a cycle are those of the first cycle, with later windows.
use Rattle.std.proofs.Common.{◌≡◌, ℕ, ◌+◌, ◌*◌, ◌/◌, ◌<◌, ◌≤◌, true, List, [], ◌∷◌, map, Some, refl, sym, ap, ◌∙◌, subst, arith}
use Rattle.std.specs.Prelude.{slice_get, Contains}
use Rattle.std.specs.Option.{option_map_or}
use Rattle.std.specs.List.{range_with_len, enumerate_from, AllByRecursion}
use Rattle.std.specs.List.Sorted.{IsPermutation}
use Rattle.std.proofs.lemmas.List.Sorted.{IsPermutation-map}
use Rattle.slot_core.specs.declared.jobs.Key.TheVariants.{Offline}
use Rattle.slot_core.specs.declared.jobs.RawJob.{RawJob}
use Rattle.slot_core.specs.declared.jobs.Job.{Job}
use Rattle.slot_core.specs.declared.tasks.Task.{Task}
use Rattle.slot_core.specs.declared.tasks.Graph.{Graph}
use Rattle.slot_core.specs.declared.tasks.TaskSet.{TaskSet}
use Rattle.slot_core.specs.Sets.Cycles.{cycle_of}
use Rattle.slot_core.specs.Sets.Ranges.{is_sound}
use Rattle.slot_core.specs.Offline.OfflineJobs.{instance_jobs, graph_jobs, raw_jobs, derived_job, cycle_jobs, later_job}
use Rattle.slot_core.specs.Feasibility.Feasible.{IsFeasible}
use Rattle.slot_facts.proofs.Lists.Members.{AllByRecursion-from_Has}
use Rattle.slot_facts.proofs.Lists.Permuted.{Contains-from_permuted}
use Rattle.slot_facts.proofs.Offline.Jobs.{offline_from_cycle}
use Rattle.slot_facts.proofs.Offline.LaterCycles.{IsLaterJob-from_instance, job_of}
use Rattle.slot_facts.proofs.Lists.Maps.{map-flat_map, map-map, map-places, flat_map-places, flat_map-ranges}

-- the job of a later instance
later-instance : (set : TaskSet) (n g t i j k : ℕ) (graph : Graph) (task : Task) → is_sound set ≡ true → IsFeasible set (cycle_of set) → slice_get set.graphs g ≡ Some graph → slice_get graph.tasks t ≡ Some task → i < cycle_of set / graph.period → j ≡ n * (cycle_of set / graph.period) + i → k ≡ 0 * (cycle_of set / graph.period) + i → job_of set g graph j t task ≡ later_job set (cycle_of set) n (job_of set g graph k t task)
later-instance set n g t i j k graph task sound feasible graph_at task_at within at_j at_k =
    let m = IsLaterJob-from_instance set n g t i j k graph task sound feasible graph_at task_at within at_j at_k in
    let q : option_map_or (λ (gr : Graph). cycle_of set / gr.period) (slice_get set.graphs g) 0 ≡ cycle_of set / graph.period = ap (λ o. option_map_or (λ (gr : Graph). cycle_of set / gr.period) o 0) graph_at in
    let instance : j ≡ k + n * option_map_or (λ (gr : Graph). cycle_of set / gr.period) (slice_get set.graphs g) 0 = omega (arith, ap (λ c. n * c) q) in
    let est = m.est in
    let dl = m.dl in
    λ x. record { key = Offline g t (instance x); est = est x; dl = dl x; left = task.wcet; declared = task.wcet }

-- the jobs of a later instance, of a graph and of a later cycle
later-tasks : (set : TaskSet) (n g i j k : ℕ) (graph : Graph) → is_sound set ≡ true → IsFeasible set (cycle_of set) → slice_get set.graphs g ≡ Some graph → i < cycle_of set / graph.period → j ≡ n * (cycle_of set / graph.period) + i → k ≡ 0 * (cycle_of set / graph.period) + i → map (derived_job set) (instance_jobs g graph j) ≡ map (λ r. later_job set (cycle_of set) n (derived_job set r)) (instance_jobs g graph k)
later-tasks set n g i j k graph sound feasible graph_at within at_j at_k =
    let move = λ (r : RawJob). later_job set (cycle_of set) n (derived_job set r) in
    map-map (derived_job set) _ (enumerate_from 0 graph.tasks) ∙ (map-places (λ (t : ℕ × Task). job_of set g graph j t.0 t.1) (λ (t : ℕ × Task). later_job set (cycle_of set) n (job_of set g graph k t.0 t.1)) graph.tasks 0 (λ t u task at_u task_at. let place : t ≡ u = omega arith in subst (λ v. job_of set g graph j v task ≡ later_job set (cycle_of set) n (job_of set g graph k v task)) place (later-instance set n g t i j k graph task sound feasible graph_at task_at within at_j at_k)) ∙ sym (map-map move _ (enumerate_from 0 graph.tasks)))

later-graph : (set : TaskSet) (n g : ℕ) (graph : Graph) → is_sound set ≡ true → IsFeasible set (cycle_of set) → slice_get set.graphs g ≡ Some graph → map (derived_job set) (graph_jobs (cycle_of set) n (g, graph)) ≡ map (λ r. later_job set (cycle_of set) n (derived_job set r)) (graph_jobs (cycle_of set) 0 (g, graph))
later-graph set n g graph sound feasible graph_at =
    let q = cycle_of set / graph.period in
    let move = λ (r : RawJob). later_job set (cycle_of set) n (derived_job set r) in
    map-flat_map (derived_job set) (instance_jobs g graph) (range_with_len (n * q) q) ∙ (flat_map-ranges (λ j. map (derived_job set) (instance_jobs g graph j)) (λ k. map move (instance_jobs g graph k)) (n * q) (0 * q) q (λ i j k within at_j at_k. later-tasks set n g i j k graph sound feasible graph_at within at_j at_k) ∙ sym (map-flat_map move (instance_jobs g graph) (range_with_len (0 * q) q)))

pub cycle_jobs-are_later : (set : TaskSet) (n : ℕ) → is_sound set ≡ true → IsFeasible set (cycle_of set) → cycle_jobs set (cycle_of set) n ≡ map (later_job set (cycle_of set) n) (cycle_jobs set (cycle_of set) 0)
cycle_jobs-are_later set n sound feasible =
    let cycle = cycle_of set in
    let places = enumerate_from 0 set.graphs in
    let move = λ (r : RawJob). later_job set cycle n (derived_job set r) in
    map-flat_map (derived_job set) (graph_jobs cycle n) places ∙ (flat_map-places (λ p. map (derived_job set) (graph_jobs cycle n p)) (λ p. map move (graph_jobs cycle 0 p)) set.graphs 0 (λ g h graph at_h graph_at. let place : g ≡ h = omega arith in subst (λ v. map (derived_job set) (graph_jobs cycle n (v, graph)) ≡ map move (graph_jobs cycle 0 (v, graph))) place (later-graph set n g graph sound feasible graph_at)) ∙ (sym (map-flat_map move (graph_jobs cycle 0) places) ∙ sym (map-map (later_job set cycle n) (derived_job set) (raw_jobs set cycle 0))))

-- a job of the first cycle lies in it, and its window has room for its slots
pub record FitsInCycle (cycle : ℕ) (job : Job) : Type 0 where
  pub some : 1 ≤ job.declared
  pub room : job.est + job.declared ≤ job.dl
  pub within : job.dl ≤ cycle
  pub whole : job.left ≡ job.declared

pub FitsInCycle-from_first : (set : TaskSet) (job : Job) → is_sound set ≡ true → IsFeasible set (cycle_of set) → Contains (cycle_jobs set (cycle_of set) 0) job → FitsInCycle (cycle_of set) job
FitsInCycle-from_first set job sound feasible at =
    let o = offline_from_cycle set (cycle_of set) 0 job at in
    let m = IsLaterJob-from_instance set 0 o.g o.t o.k o.k o.k o.graph o.task sound feasible o.instance_of.graph_at o.instance_of.task_at (omega (arith, o.below)) (omega arith) (omega arith) in
    subst
    (FitsInCycle (cycle_of set))
    (sym o.instance_of.derived)
    (record { some = m.some; room = m.room; within = m.within; whole = refl })

-- all jobs of a permutation of the first cycle do
pub all_fit : (set : TaskSet) (jobs : List Job) → is_sound set ≡ true → IsFeasible set (cycle_of set) → IsPermutation (cycle_jobs set (cycle_of set) 0) jobs → AllByRecursion (FitsInCycle (cycle_of set)) jobs
all_fit set jobs sound feasible h =
    let first = cycle_jobs set (cycle_of set) 0 in
    AllByRecursion-from_Has
    (FitsInCycle (cycle_of set))
    jobs
    (λ job at. FitsInCycle-from_first set job sound feasible (Contains-from_permuted first jobs job h at))

-- a permutation of the first cycle is, with later windows, one of the other cycle
pub later-permutation : (set : TaskSet) (jobs : List Job) (n : ℕ) → is_sound set ≡ true → IsFeasible set (cycle_of set) → IsPermutation (cycle_jobs set (cycle_of set) 0) jobs → IsPermutation (cycle_jobs set (cycle_of set) n) (map (later_job set (cycle_of set) n) jobs)
later-permutation set jobs n sound feasible h =
    subst
    (λ js. IsPermutation js (map (later_job set (cycle_of set) n) jobs))
    (sym (cycle_jobs-are_later set n sound feasible))
    (IsPermutation-map (later_job set (cycle_of set) n) (cycle_jobs set (cycle_of set) 0) jobs h)

-- the jobs of a cycle are due after the cycles before it, and by its end
pub later-due_after : (set : TaskSet) (cycle n : ℕ) (jobs : List Job) → AllByRecursion (FitsInCycle cycle) jobs → AllByRecursion (λ (j : Job). n * cycle < j.dl) (map (later_job set cycle n) jobs)
later-due_after set cycle n [] fit = tt
later-due_after set cycle n (job ∷ jobs) fit =
    (omega (arith, fit.0.room, fit.0.some), later-due_after set cycle n jobs fit.1)

pub later-due_by : (set : TaskSet) (cycle n : ℕ) (jobs : List Job) → AllByRecursion (FitsInCycle cycle) jobs → AllByRecursion (λ (j : Job). j.dl ≤ (n + 1) * cycle) (map (later_job set cycle n) jobs)
later-due_by set cycle n [] fit = tt
later-due_by set cycle n (job ∷ jobs) fit = (omega (arith, fit.0.within), later-due_by set cycle n jobs fit.1)
