-- In a feasible set the offline jobs of a cycle are those of the first cycle, with later windows.
use Rattle.std.proofs.Common.{◌≡◌, ℕ, zero, suc, ◌+◌, ◌-◌, ◌*◌, ◌/◌, ◌<◌, ◌≤◌, true, cond, List, [], ◌∷◌, length, Some, arith, refl, sym, subst, ap, ◌∙◌}
use Rattle.std.specs.Prelude.{sum_by, nat_le, ◌&&◌, slice_get}
use Rattle.std.specs.Option.{option_map_or}
use Rattle.std.specs.List.{range_with_len, enumerate_from}
use Rattle.std.proofs.lemmas.Bool.Decides.{nat_tests}
use Rattle.std.proofs.lemmas.List.Sums.{sum_by-cons}
use Rattle.std.proofs.lemmas.Option.{slice_get_within}
use Rattle.std.proofs.Math.Nat.{mul-le-mul_right}
use Rattle.slot_core.specs.declared.TheConstants.{SLOT_LIMIT}
use Rattle.slot_core.specs.declared.jobs.Key.TheVariants.{Offline}
use Rattle.slot_core.specs.declared.jobs.Job.{Job}
use Rattle.slot_core.specs.declared.tasks.Task.{Task}
use Rattle.slot_core.specs.declared.tasks.Graph.{Graph}
use Rattle.slot_core.specs.declared.tasks.TaskSet.{TaskSet}
use Rattle.slot_core.specs.Sets.Cycles.{cycle_of}
use Rattle.slot_core.specs.Offline.Precedence.{wcet_of, longest_before, longest_after}
use Rattle.slot_core.specs.Sets.Ranges.{is_sound}
use Rattle.slot_core.specs.Offline.OfflineJobs.{tasks_of, release_of, deadline_of, raw_job, instance_jobs, graph_jobs, raw_jobs, chain_before, chain_after, derived_job, cycle_jobs}
use Rattle.slot_core.specs.Feasibility.Feasible.{declared_within, IsFeasible}
use Rattle.slot_facts.proofs.Offline.Chains.{HasNoLoop}
use Rattle.slot_facts.proofs.Offline.ChainRoom.{sum_below, chain_room}
use Rattle.slot_facts.proofs.Sets.Ranges.{bounds, TaskRanges-from_test, GraphFits, GraphFits-from_test}
use Rattle.slot_facts.proofs.Lists.Sums.{sum_by-map, sum_by-flat_map}
use Rattle.slot_facts.proofs.Offline.Jobs.{graph_in_range-from_sound, task_in_range-from_sound, HasNoLoop-from_sound, cycle-multiple}

pub GraphFits-from_sound : (set : TaskSet) (g : ℕ) (graph : Graph) → is_sound set ≡ true → slice_get set.graphs g ≡ Some graph → GraphFits graph
GraphFits-from_sound set g graph sound at =
    GraphFits-from_test graph (graph_in_range-from_sound set g graph sound at)

-- a task takes at least one slot
pub wcet-from_sound : (set : TaskSet) (g t : ℕ) (graph : Graph) (task : Task) → is_sound set ≡ true → slice_get set.graphs g ≡ Some graph → slice_get graph.tasks t ≡ Some task → 1 ≤ task.wcet
wcet-from_sound set g t graph task sound graph_at task_at =
    (bounds 1 SLOT_LIMIT task.wcet (TaskRanges-from_test task (task_in_range-from_sound set g t graph task sound graph_at task_at)).wcet).0

-- the job of an instance
abbrev pub job_of : TaskSet → ℕ → Graph → ℕ → ℕ → Task → Job
job_of set g graph k t task =
    derived_job set (raw_job g graph k (t, task))

-- the sum of f over the jobs of one instance, and over those of q instances from the one of number first on
abbrev instance_sum : TaskSet → (Job → ℕ) → ℕ × Graph → ℕ → ℕ
instance_sum set f place k =
    sum_by (λ (t : ℕ × Task). f (job_of set place.0 place.1 k t.0 t.1)) (enumerate_from 0 place.1.tasks)

abbrev graph_sum : TaskSet → (Job → ℕ) → ℕ → ℕ → ℕ × Graph → ℕ
graph_sum set f cycle n place =
    sum_by (instance_sum set f place) (range_with_len (n * (cycle / place.1.period)) (cycle / place.1.period))

sum_by-same : {X : Type 0} (f g : X → ℕ) (xs : List X) → ((x : X) → f x ≡ g x) → sum_by f xs ≡ sum_by g xs
sum_by-same f g xs each = λ i. sum_by (λ x. each x i) xs

-- the sum of f over the jobs of a cycle, by graph, instance and task
graph_jobs-sum : (set : TaskSet) (f : Job → ℕ) (cycle n : ℕ) (place : ℕ × Graph) → sum_by (λ r. f (derived_job set r)) (graph_jobs cycle n place) ≡ graph_sum set f cycle n place
graph_jobs-sum set f cycle n place =
    sum_by-flat_map (λ r. f (derived_job set r)) (instance_jobs place.0 place.1) (range_with_len (n * (cycle / place.1.period)) (cycle / place.1.period)) ∙ sum_by-same _ _ (range_with_len (n * (cycle / place.1.period)) (cycle / place.1.period)) (λ k. sum_by-map (λ r. f (derived_job set r)) _ (enumerate_from 0 place.1.tasks))

cycle_jobs-sum : (set : TaskSet) (f : Job → ℕ) (cycle n : ℕ) → sum_by f (cycle_jobs set cycle n) ≡ sum_by (graph_sum set f cycle n) (enumerate_from 0 set.graphs)
cycle_jobs-sum set f cycle n =
    sum_by-map f (derived_job set) (raw_jobs set cycle n) ∙ (sum_by-flat_map (λ r. f (derived_job set r)) (graph_jobs cycle n) (enumerate_from 0 set.graphs) ∙ sum_by-same _ _ (enumerate_from 0 set.graphs) (graph_jobs-sum set f cycle n))

-- sums over a range, and over a list with places: each term, and term by term
term-le-range : (f : ℕ → ℕ) (a n i j : ℕ) → j ≡ a + i → i < n → f j ≤ sum_by f (range_with_len a n)
term-le-range f a zero i j e h = absurd (omega arith)
term-le-range f a (suc n) zero j e h =
    let base : j ≡ a = omega arith in
    rw base (omega (arith, sum_by-cons f a (range_with_len (a + 1) n)))
term-le-range f a (suc n) (suc i) j e h =
    omega (arith, sum_by-cons f a (range_with_len (a + 1) n), term-le-range f (a + 1) n i j (omega arith) (omega arith))

range-le-range : (f g : ℕ → ℕ) (a b n : ℕ) → ((i j k : ℕ) → i < n → j ≡ a + i → k ≡ b + i → f j ≤ g k) → sum_by f (range_with_len a n) ≤ sum_by g (range_with_len b n)
range-le-range f g a b zero each = omega arith
range-le-range f g a b (suc n) each =
    omega (arith, sum_by-cons f a (range_with_len (a + 1) n), sum_by-cons g b (range_with_len (b + 1) n), each 0 a b (omega arith) (omega arith) (omega arith), range-le-range f g (a + 1) (b + 1) n (λ i j k low at_j at_k. each (i + 1) j k (omega arith) (omega arith) (omega arith)))

term-le-places : {X : Type 0} (f : ℕ × X → ℕ) (xs : List X) (n i j : ℕ) (x : X) → j ≡ n + i → slice_get xs i ≡ Some x → f (j, x) ≤ sum_by f (enumerate_from n xs)
term-le-places f [] n i j x e at = cc
term-le-places f (y ∷ xs) n zero j x e at =
    let base : j ≡ n = omega arith in
    let same : f (j, x) ≡ f (n, y) = cc in
    omega (arith, sum_by-cons f (n, y) (enumerate_from (n + 1) xs))
term-le-places f (y ∷ xs) n (suc i) j x e at =
    omega (arith, sum_by-cons f (n, y) (enumerate_from (n + 1) xs), term-le-places f xs (n + 1) i j x (omega arith) at)

places-le-places : {X : Type 0} (f g : ℕ × X → ℕ) (xs : List X) (n : ℕ) → ((i j : ℕ) (x : X) → j ≡ n + i → slice_get xs i ≡ Some x → f (j, x) ≤ g (j, x)) → sum_by f (enumerate_from n xs) ≤ sum_by g (enumerate_from n xs)
places-le-places f g [] n each = omega arith
places-le-places f g (x ∷ xs) n each =
    omega (arith, sum_by-cons f (n, x) (enumerate_from (n + 1) xs), sum_by-cons g (n, x) (enumerate_from (n + 1) xs), each 0 n x (omega arith) refl, places-le-places f g xs (n + 1) (λ i j y at_j at. each (suc i) j y (omega arith) at))

places-le-places_from_0 : {X : Type 0} (f g : ℕ × X → ℕ) (xs : List X) → ((i : ℕ) (x : X) → slice_get xs i ≡ Some x → f (i, x) ≤ g (i, x)) → sum_by f (enumerate_from 0 xs) ≤ sum_by g (enumerate_from 0 xs)
places-le-places_from_0 f g xs each =
    places-le-places f g xs 0 (λ i j x at_j at. let e : i ≡ j = omega arith in subst (λ r. f (r, x) ≤ g (r, x)) e (each i x at))

-- the slots of all tasks, by place
wcet-sum : (tasks : List Task) → sum_below (wcet_of tasks) (length tasks) ≡ sum_by (λ (t : Task). t.wcet) tasks
wcet-sum [] = refl
wcet-sum (t ∷ tasks) = omega (arith, sum_by-cons (λ (t : Task). t.wcet) t tasks, wcet-sum tasks)

list-le-places : {X : Type 0} (h : X → ℕ) (f : ℕ × X → ℕ) (xs : List X) (n : ℕ) → ((j : ℕ) (x : X) → h x ≤ f (j, x)) → sum_by h xs ≤ sum_by f (enumerate_from n xs)
list-le-places h f [] n each = omega arith
list-le-places h f (x ∷ xs) n each =
    omega (arith, sum_by-cons h x xs, sum_by-cons f (n, x) (enumerate_from (n + 1) xs), each n x, list-le-places h f xs (n + 1) each)

-- a job of an instance counts in the demand of the instance's window
counts : (release deadline before after w : ℕ) → w ≤ cond (nat_le release (release + before + 0) && nat_le (release + deadline - after + 0) (release + deadline)) w 0
counts release deadline before after w = grind (arith, nat_tests)

-- the demand of an instance's window holds the slots of all its tasks
instance_demand : (set : TaskSet) (cycle g k : ℕ) (graph : Graph) → slice_get set.graphs g ≡ Some graph → k < cycle / graph.period → sum_by (λ (t : Task). t.wcet) graph.tasks ≤ declared_within (cycle_jobs set cycle 0) 0 (release_of graph k) (deadline_of graph k)
instance_demand set cycle g k graph at within =
    let f = λ (j : Job). cond (nat_le (release_of graph k) (j.est + 0) && nat_le (j.dl + 0) (deadline_of graph k)) j.declared 0 in
    omega (arith, cycle_jobs-sum set f cycle 0, term-le-places (graph_sum set f cycle 0) set.graphs 0 g g graph (omega arith) at, term-le-range (instance_sum set f (g, graph)) (0 * (cycle / graph.period)) (cycle / graph.period) k k (omega arith) within, list-le-places (λ (t : Task). t.wcet) (λ (t : ℕ × Task). f (job_of set g graph k t.0 t.1)) graph.tasks 0 (λ t task. counts (release_of graph k) graph.deadline (chain_before set (Offline g t k)) (chain_after set (Offline g t k)) task.wcet))

wcet_some : (tasks : List Task) → ((t : ℕ) (task : Task) → slice_get tasks t ≡ Some task → 1 ≤ task.wcet) → (t : ℕ) → t < length tasks → 1 ≤ wcet_of tasks t
wcet_some [] each t within = absurd (omega arith)
wcet_some (task ∷ tasks) each zero within = each 0 task refl
wcet_some (task ∷ tasks) each (suc t) within = wcet_some tasks (λ q next at. each (suc q) next at) t (omega arith)

task_room : (tasks : List Task) (t : ℕ) (task : Task) → HasNoLoop tasks → ((q : ℕ) (next : Task) → slice_get tasks q ≡ Some next → 1 ≤ next.wcet) → slice_get tasks t ≡ Some task → longest_before tasks t + task.wcet + longest_after tasks t ≤ sum_by (λ (q : Task). q.wcet) tasks
task_room tasks t task sound each at =
    let slots : wcet_of tasks t ≡ task.wcet = ap (λ o. option_map_or (λ (q : Task). q.wcet) o 0) at in
    omega (arith, chain_room tasks t sound (wcet_some tasks each) (slice_get_within tasks t task at), wcet-sum tasks)

-- the window of an instance of the first cycle lies in it
window_in_cycle : (q period offset deadline cycle k : ℕ) → q * period ≡ cycle → k < q → offset + deadline ≤ period → k * period + offset + deadline ≤ cycle
window_in_cycle q period offset deadline cycle k e h fits = omega (arith, mul-le-mul_right period h)

-- in a feasible set the longest chains through a task have room before the deadline
pub job_room : (set : TaskSet) (g t k : ℕ) (graph : Graph) (task : Task) → is_sound set ≡ true → IsFeasible set (cycle_of set) → slice_get set.graphs g ≡ Some graph → slice_get graph.tasks t ≡ Some task → k < cycle_of set / graph.period → chain_before set (Offline g t k) + task.wcet + chain_after set (Offline g t k) ≤ graph.deadline
job_room set g t k graph task sound feasible graph_at task_at within =
    let tasks : tasks_of set g ≡ graph.tasks = ap (λ o. option_map_or (λ (gr : Graph). gr.tasks) o []) graph_at in
    let fits : GraphFits graph = GraphFits-from_sound set g graph sound graph_at in
    let inside : release_of graph k + graph.deadline ≤ cycle_of set = window_in_cycle (cycle_of set / graph.period) graph.period graph.offset graph.deadline (cycle_of set) k (cycle-multiple set g graph sound graph_at) within fits.within in
    let here : longest_before graph.tasks t + task.wcet + longest_after graph.tasks t ≤ sum_by (λ (q : Task). q.wcet) graph.tasks = task_room graph.tasks t task (subst HasNoLoop tasks (HasNoLoop-from_sound set g sound)) (λ q next at. wcet-from_sound set g q graph next sound graph_at at) task_at in
    subst
    (λ ts. longest_before ts t + task.wcet + longest_after ts t ≤ graph.deadline)
    (sym tasks)
    (omega (arith, fits.some_deadline, instance_demand set (cycle_of set) g k graph graph_at within, feasible (release_of graph k) (deadline_of graph k) (omega (arith, fits.some_deadline)) (omega (arith, fits.some_deadline)) (omega arith)))

-- a job of the first cycle has a window in it with room for its slots, and a job of another cycle is it,
-- with its window so far later
pub record IsLaterJob (cycle distance : ℕ) (job other : Job) : Type 0 where
  pub room : job.est + job.declared ≤ job.dl
  pub within : job.dl ≤ cycle
  pub some : 1 ≤ job.declared
  pub est : other.est ≡ job.est + distance
  pub dl : other.dl ≡ job.dl + distance
  pub declared : other.declared ≡ job.declared
  pub left : other.left ≡ job.declared

-- the numbers of the two
est_moves : (n q period offset before cycle i j k : ℕ) → q * period ≡ cycle → j ≡ n * q + i → k ≡ 0 * q + i → j * period + offset + before ≡ k * period + offset + before + n * cycle
est_moves n q period offset before cycle i j k e at_j at_k =
    omega (arith, ap (λ c. n * c) e, ap (λ c. c * period) at_j, ap (λ c. c * period) at_k)

dl_moves : (n q period offset deadline after cycle i j k : ℕ) → q * period ≡ cycle → j ≡ n * q + i → k ≡ 0 * q + i → after ≤ deadline → j * period + offset + deadline - after ≡ k * period + offset + deadline - after + n * cycle
dl_moves n q period offset deadline after cycle i j k e at_j at_k le =
    omega (arith, ap (λ c. n * c) e, ap (λ c. c * period) at_j, ap (λ c. c * period) at_k)

pub IsLaterJob-from_instance : (set : TaskSet) (n g t i j k : ℕ) (graph : Graph) (task : Task) → is_sound set ≡ true → IsFeasible set (cycle_of set) → slice_get set.graphs g ≡ Some graph → slice_get graph.tasks t ≡ Some task → i < cycle_of set / graph.period → j ≡ n * (cycle_of set / graph.period) + i → k ≡ 0 * (cycle_of set / graph.period) + i → IsLaterJob (cycle_of set) (n * cycle_of set) (job_of set g graph k t task) (job_of set g graph j t task)
IsLaterJob-from_instance set n g t i j k graph task sound feasible graph_at task_at within at_j at_k =
    let whole = cycle-multiple set g graph sound graph_at in
    let q = cycle_of set / graph.period in
    let low : k < cycle_of set / graph.period = omega arith in
    let room = job_room set g t k graph task sound feasible graph_at task_at low in
    let fits : GraphFits graph = GraphFits-from_sound set g graph sound graph_at in
    let inside : release_of graph k + graph.deadline ≤ cycle_of set = window_in_cycle (cycle_of set / graph.period) graph.period graph.offset graph.deadline (cycle_of set) k (cycle-multiple set g graph sound graph_at) low fits.within in
    record {
      room = omega (arith, room);
      within = omega arith;
      some = wcet-from_sound set g t graph task sound graph_at task_at;
      est = est_moves n q graph.period graph.offset (chain_before set (Offline g t k)) (cycle_of set) i j k whole at_j at_k;
      dl = dl_moves n q graph.period graph.offset graph.deadline (chain_after set (Offline g t k)) (cycle_of set) i j k whole at_j at_k (omega (arith, room));
      declared = refl;
      left = refl;
    }

-- a sum over the jobs of a cycle is at most one over those of the first cycle, where it is so job by job
pub cycle_jobs-later : (set : TaskSet) (n : ℕ) (f h : Job → ℕ) → is_sound set ≡ true → IsFeasible set (cycle_of set) → ((job other : Job) → IsLaterJob (cycle_of set) (n * cycle_of set) job other → f other ≤ h job) → sum_by f (cycle_jobs set (cycle_of set) n) ≤ sum_by h (cycle_jobs set (cycle_of set) 0)
cycle_jobs-later set n f h sound feasible each =
    let cycle = cycle_of set in
    omega (arith, cycle_jobs-sum set f cycle n, cycle_jobs-sum set h cycle 0, places-le-places_from_0 (graph_sum set f cycle n) (graph_sum set h cycle 0) set.graphs (λ g graph graph_at. range-le-range (instance_sum set f (g, graph)) (instance_sum set h (g, graph)) (n * (cycle / graph.period)) (0 * (cycle / graph.period)) (cycle / graph.period) (λ i j k within at_j at_k. places-le-places_from_0 (λ (t : ℕ × Task). f (job_of set g graph j t.0 t.1)) (λ (t : ℕ × Task). h (job_of set g graph k t.0 t.1)) graph.tasks (λ t task task_at. each (job_of set g graph k t task) (job_of set g graph j t task) (IsLaterJob-from_instance set n g t i j k graph task sound feasible graph_at task_at within at_j at_k)))))
