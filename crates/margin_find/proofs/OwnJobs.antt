-- The jobs of a set with a longer task: those of the other graphs, and those of its graph alone.
use Rattle.std.proofs.Common.{◌≡◌, ℕ, zero, suc, ◌+◌, ◌-◌, ◌*◌, ◌/◌, ◌<◌, ◌==◌, Bool, true, false, cond, not, List, [], ◌∷◌, ◌++◌, Some, refl, sym, ap, ◌∙◌, arith}
use Rattle.std.specs.Prelude.{sum_by, filter, slice_get, IsPermutation}
use Rattle.std.specs.Option.{option_map_or}
use Rattle.std.specs.List.{range_with_len, enumerate_from}
use Rattle.std.proofs.lemmas.Bool.{eq-eqb, ne_eqb}
use Rattle.std.proofs.lemmas.List.Sums.{sum_by-cons, sum_by-append}
use Rattle.std.proofs.lemmas.List.Sorted.{sum_by-IsPermutation}
use Rattle.slot_core.specs.declared.jobs.Job.{Job}
use Rattle.slot_core.specs.declared.jobs.RawJob.{RawJob}
use Rattle.slot_core.specs.declared.tasks.Task.{Task}
use Rattle.slot_core.specs.declared.tasks.Graph.{Graph}
use Rattle.slot_core.specs.declared.tasks.TaskSet.{TaskSet}
use Rattle.slot_core.specs.declared.faults.Part.TheVariants.{Task as TaskPart}
use Rattle.slot_core.specs.Claims.Growth.{changed_at, with_longer_task, grown}
use Rattle.slot_core.specs.Offline.OfflineJobs.{tasks_of, release_of, deadline_of, raw_job, instance_jobs, graph_jobs, raw_jobs, derived_job, cycle_jobs}
use Rattle.slot_core.specs.Offline.Precedence.{longest_before, longest_after}
use Rattle.slot_core.specs.Runs.Matches.{HaveSameItems}
use Rattle.slot_core.specs.Sets.Cycles.{cycle_of}
use Rattle.slot_facts.proofs.Lists.Sums.{sum_by-map, sum_by-flat_map, sum_by-filter, sum_by-constant}
use Rattle.slot_facts.proofs.Sets.Tasks.{tasks_at}
use Rattle.margin_find.specs.Kept.{is_of, jobs_of_others, HaveSameWindows, alone}

-- a sum over the jobs of a cycle, graph by graph
abbrev of_graph : (Job → ℕ) → TaskSet → ℕ → ℕ × Graph → ℕ
of_graph f set cycle p = sum_by (λ raw. f (derived_job set raw)) (graph_jobs cycle 0 p)

cycle_jobs-sum : (f : Job → ℕ) (set : TaskSet) (cycle : ℕ) → sum_by f (cycle_jobs set cycle 0) ≡ sum_by (of_graph f set cycle) (enumerate_from 0 set.graphs)
cycle_jobs-sum f set cycle =
    sum_by-map f (derived_job set) (raw_jobs set cycle 0)
    ∙ sum_by-flat_map (λ raw. f (derived_job set raw)) (graph_jobs cycle 0) (enumerate_from 0 set.graphs)

-- and over those of a graph, instance by instance and task by task
graph_jobs-sum : (h : RawJob → ℕ) (cycle i : ℕ) (graph : Graph) → sum_by h (graph_jobs cycle 0 (i, graph)) ≡ sum_by (λ k. sum_by (λ (t : ℕ × Task). h (raw_job i graph k t)) (enumerate_from 0 graph.tasks)) (range_with_len (0 * (cycle / graph.period)) (cycle / graph.period))
graph_jobs-sum h cycle i graph =
    let range = range_with_len (0 * (cycle / graph.period)) (cycle / graph.period) in
    let tasks = enumerate_from 0 graph.tasks in
    let each : sum_by (λ k. sum_by h (instance_jobs i graph k)) range ≡ sum_by (λ k. sum_by (λ (t : ℕ × Task). h (raw_job i graph k t)) tasks) range = λ p. sum_by (λ k. sum_by-map h (raw_job i graph k) tasks p) range in
    sum_by-flat_map h (instance_jobs i graph) range ∙ each

-- terms that agree for each job of a graph have the same sum, also where the graph has another place
graph_jobs-agree : (h k : RawJob → ℕ) (cycle i j : ℕ) (graph : Graph) → ((n : ℕ) (t : ℕ × Task) → h (raw_job i graph n t) ≡ k (raw_job j graph n t)) → sum_by h (graph_jobs cycle 0 (i, graph)) ≡ sum_by k (graph_jobs cycle 0 (j, graph))
graph_jobs-agree h k cycle i j graph same =
    let range = range_with_len (0 * (cycle / graph.period)) (cycle / graph.period) in
    let tasks = enumerate_from 0 graph.tasks in
    let each : sum_by (λ n. sum_by (λ (t : ℕ × Task). h (raw_job i graph n t)) tasks) range ≡ sum_by (λ n. sum_by (λ (t : ℕ × Task). k (raw_job j graph n t)) tasks) range = λ p. sum_by (λ n. sum_by (λ (t : ℕ × Task). same n t p) tasks) range in
    graph_jobs-sum h cycle i graph ∙ each ∙ sym (graph_jobs-sum k cycle j graph)

-- what counts only outside a graph
outside : (b : Bool) (n : ℕ) → cond (not b) n 0 ≡ cond b 0 n
outside true n = refl
outside false n = refl

sum_by-outside : {X : Type 0} (b : Bool) (f : X → ℕ) (xs : List X) → sum_by (λ x. cond b 0 (f x)) xs ≡ cond b 0 (sum_by f xs)
sum_by-outside true f xs = sum_by-constant 0 xs ∙ omega arith
sum_by-outside false f xs = refl

-- the jobs of the other graphs
of_others : (f : Job → ℕ) (set : TaskSet) (cycle g : ℕ) (p : ℕ × Graph) → of_graph (λ (j : Job). cond (not (is_of g j.key)) (f j) 0) set cycle p ≡ cond (p.0 == g) 0 (of_graph f set cycle p)
of_others f set cycle g (i, graph) =
    graph_jobs-agree (λ raw. cond (not (is_of g raw.key)) (f (derived_job set raw)) 0) (λ raw. cond (i == g) 0 (f (derived_job set raw))) cycle i i graph (λ n t. outside (i == g) (f (derived_job set (raw_job i graph n t))))
    ∙ sum_by-outside (i == g) (λ raw. f (derived_job set raw)) (graph_jobs cycle 0 (i, graph))

others-sum : (f : Job → ℕ) (set : TaskSet) (cycle g : ℕ) → sum_by f (filter (λ (j : Job). not (is_of g j.key)) (cycle_jobs set cycle 0)) ≡ sum_by (λ p. cond (p.0 == g) 0 (of_graph f set cycle p)) (enumerate_from 0 set.graphs)
others-sum f set cycle g =
    let counted = λ (j : Job). cond (not (is_of g j.key)) (f j) 0 in
    let each : sum_by (of_graph counted set cycle) (enumerate_from 0 set.graphs) ≡ sum_by (λ p. cond (p.0 == g) 0 (of_graph f set cycle p)) (enumerate_from 0 set.graphs) = λ i. sum_by (λ (p : ℕ × Graph). of_others f set cycle g p i) (enumerate_from 0 set.graphs) in
    sum_by-filter f (λ (j : Job). not (is_of g j.key)) (cycle_jobs set cycle 0) ∙ cycle_jobs-sum counted set cycle ∙ each

-- places past the changed one
past : {X : Type 0} (s other : ℕ × X → ℕ) (at n : ℕ) (xs : List X) → at < n → ((i : ℕ) (y : X) → ¬ (i ≡ at) → s (i, y) ≡ other (i, y)) → sum_by s (enumerate_from n xs) ≡ sum_by (λ p. cond (p.0 == at) 0 (other p)) (enumerate_from n xs)
past s other at n [] low same = refl
past s other at n (y ∷ ys) low same =
    let differs : (n == at) ≡ false = ne_eqb n at (λ e. omega (arith, e, low)) in
    let here : cond (n == at) 0 (other (n, y)) ≡ other (n, y) = rw differs refl in
    omega (
      arith,
      sum_by-cons s (n, y) (enumerate_from (n + 1) ys),
      sum_by-cons (λ p. cond (p.0 == at) 0 (other p)) (n, y) (enumerate_from (n + 1) ys),
      here,
      same n y (λ e. omega (arith, e, low)),
      past s other at (n + 1) ys (omega arith) same,
    )

-- a sum over places where one item is changed: the others, and that one
changed-sum : {X : Type 0} (h : X → X) (s other : ℕ × X → ℕ) (at n g : ℕ) (xs : List X) (x : X) → n + g ≡ at → slice_get xs g ≡ Some x → ((i : ℕ) (y : X) → ¬ (i ≡ at) → s (i, y) ≡ other (i, y)) → sum_by s (enumerate_from n (changed_at h g xs)) ≡ sum_by (λ p. cond (p.0 == at) 0 (other p)) (enumerate_from n xs) + s (at, h x)
changed-sum h s other at n g [] x place here same = absurd (cc here)
changed-sum h s other at n zero (y ∷ ys) x place here same =
    let is : y ≡ x = cc here in
    let equal : n ≡ at = omega arith in
    let test : (n == at) ≡ true = eq-eqb n at equal in
    let none : cond (n == at) 0 (other (n, y)) ≡ 0 = rw test refl in
    let moved : s (n, h y) ≡ s (at, h x) = ap (λ i. s (i, h y)) equal ∙ ap (λ z. s (at, h z)) is in
    omega (
      arith,
      sum_by-cons s (n, h y) (enumerate_from (n + 1) ys),
      sum_by-cons (λ p. cond (p.0 == at) 0 (other p)) (n, y) (enumerate_from (n + 1) ys),
      none,
      moved,
      past s other at (n + 1) ys (omega arith) same,
    )
changed-sum h s other at n (suc g) (y ∷ ys) x place here same =
    let differs : (n == at) ≡ false = ne_eqb n at (λ e. omega (arith, e, place)) in
    let kept : cond (n == at) 0 (other (n, y)) ≡ other (n, y) = rw differs refl in
    omega (
      arith,
      sum_by-cons s (n, y) (enumerate_from (n + 1) (changed_at h g ys)),
      sum_by-cons (λ p. cond (p.0 == at) 0 (other p)) (n, y) (enumerate_from (n + 1) ys),
      kept,
      same n y (λ e. omega (arith, e, place)),
      changed-sum h s other at (n + 1) g ys x (omega arith) here same,
    )

-- items at a place of a list with one item changed
changed_at-other : {X : Type 0} (h : X → X) (g i : ℕ) (xs : List X) → ¬ (i ≡ g) → slice_get (changed_at h g xs) i ≡ slice_get xs i
changed_at-other h g i [] differs = refl
changed_at-other h zero zero (x ∷ xs) differs = absurd (differs refl)
changed_at-other h zero (suc i) (x ∷ xs) differs = refl
changed_at-other h (suc g) zero (x ∷ xs) differs = refl
changed_at-other h (suc g) (suc i) (x ∷ xs) differs = changed_at-other h g i xs (λ e. differs (ap suc e))

pub changed_at-itself : {X : Type 0} (h : X → X) (g : ℕ) (xs : List X) (x : X) → slice_get xs g ≡ Some x → slice_get (changed_at h g xs) g ≡ Some (h x)
changed_at-itself h g [] x at = absurd (cc at)
changed_at-itself h zero (y ∷ ys) x at = let same : y ≡ x = cc at in ap (λ z. Some (h z)) same
changed_at-itself h (suc g) (y ∷ ys) x at = changed_at-itself h g ys x at

-- the start, the deadline and the slots of a job of a graph, by the tasks of the graph
abbrev by_tasks : (ℕ → ℕ → ℕ → ℕ) → Graph → ℕ → ℕ × Task → List Task → ℕ
by_tasks f graph n t tasks =
    f (release_of graph n + longest_before tasks t.0) (deadline_of graph n - longest_after tasks t.0) t.1.wcet

abbrev value : (ℕ → ℕ → ℕ → ℕ) → Job → ℕ
value f j = f j.est j.dl j.declared

-- the other graphs have the jobs that they had
other_graphs : (set : TaskSet) (g t growth : ℕ) (f : ℕ → ℕ → ℕ → ℕ) (cycle i : ℕ) (other : Graph) → ¬ (i ≡ g) → of_graph (value f) (grown set (TaskPart g t) growth) cycle (i, other) ≡ of_graph (value f) set cycle (i, other)
other_graphs set g t growth f cycle i other differs =
    let longer = grown set (TaskPart g t) growth in
    let tasks : tasks_of longer i ≡ tasks_of set i = ap (λ o. option_map_or (λ (x : Graph). x.tasks) o []) (changed_at-other (with_longer_task t growth) g i set.graphs differs) in
    graph_jobs-agree (λ raw. value f (derived_job longer raw)) (λ raw. value f (derived_job set raw)) cycle i i other (λ n u. ap (by_tasks f other n u) tasks)

-- and the graph has those that it has alone
own_graph : (set : TaskSet) (g t growth soft_limit : ℕ) (graph : Graph) (f : ℕ → ℕ → ℕ → ℕ) (cycle : ℕ) → slice_get set.graphs g ≡ Some graph → of_graph (value f) (grown set (TaskPart g t) growth) cycle (g, with_longer_task t growth graph) ≡ sum_by (value f) (cycle_jobs (alone soft_limit cycle (with_longer_task t growth graph)) cycle 0)
own_graph set g t growth soft_limit graph f cycle at =
    let longer = grown set (TaskPart g t) growth in
    let own = with_longer_task t growth graph in
    let one = alone soft_limit cycle own in
    let tasks : tasks_of longer g ≡ own.tasks = tasks_at longer g own (changed_at-itself (with_longer_task t growth) g set.graphs graph at) in
    let terms : of_graph (value f) longer cycle (g, own) ≡ of_graph (value f) one cycle (0, own) = graph_jobs-agree (λ raw. value f (derived_job longer raw)) (λ raw. value f (derived_job one raw)) cycle g 0 own (λ n u. ap (by_tasks f own n u) tasks) in
    let single : sum_by (of_graph (value f) one cycle) ((0, own) ∷ []) ≡ of_graph (value f) one cycle (0, own) = sum_by-cons (of_graph (value f) one cycle) (0, own) [] ∙ omega arith in
    terms ∙ sym single ∙ sym (cycle_jobs-sum (value f) one cycle)

split-sum : (set : TaskSet) (g t growth soft_limit : ℕ) (graph : Graph) (f : ℕ → ℕ → ℕ → ℕ) (cycle : ℕ) → slice_get set.graphs g ≡ Some graph → sum_by (value f) (cycle_jobs (grown set (TaskPart g t) growth) cycle 0) ≡ sum_by (value f) (filter (λ (j : Job). not (is_of g j.key)) (cycle_jobs set cycle 0)) + sum_by (value f) (cycle_jobs (alone soft_limit cycle (with_longer_task t growth graph)) cycle 0)
split-sum set g t growth soft_limit graph f cycle at =
    let longer = grown set (TaskPart g t) growth in
    let whole = cycle_jobs-sum (value f) longer cycle in
    let parts = changed-sum (with_longer_task t growth) (of_graph (value f) longer cycle) (of_graph (value f) set cycle) g 0 g set.graphs graph (omega arith) at (other_graphs set g t growth f cycle) in
    let others = others-sum (value f) set cycle g in
    let own = own_graph set g t growth soft_limit graph f cycle at in
    let both : sum_by (λ p. cond (p.0 == g) 0 (of_graph (value f) set cycle p)) (enumerate_from 0 set.graphs) + of_graph (value f) longer cycle (g, with_longer_task t growth graph) ≡ sum_by (value f) (filter (λ (j : Job). not (is_of g j.key)) (cycle_jobs set cycle 0)) + sum_by (value f) (cycle_jobs (alone soft_limit cycle (with_longer_task t growth graph)) cycle 0) = λ i. sym others i + own i in
    whole ∙ parts ∙ both

-- so what is kept of the other graphs and the jobs of its graph alone, joined, are the jobs of the set
pub joined-windows : (set : TaskSet) (g t growth soft_limit : ℕ) (graph : Graph) (kept own jobs : List Job) → slice_get set.graphs g ≡ Some graph → IsPermutation (jobs_of_others set g) kept → IsPermutation (cycle_jobs (alone soft_limit (cycle_of set) (with_longer_task t growth graph)) (cycle_of set) 0) own → HaveSameItems (kept ++ own) jobs → HaveSameWindows jobs (cycle_jobs (grown set (TaskPart g t) growth) (cycle_of set) 0)
joined-windows set g t growth soft_limit graph kept own jobs at others alone_jobs items f =
    let v = value f in
    let cycle = cycle_of set in
    let first : sum_by v kept ≡ sum_by v (jobs_of_others set g) = sum_by-IsPermutation v (jobs_of_others set g) kept others in
    let second : sum_by v own ≡ sum_by v (cycle_jobs (alone soft_limit cycle (with_longer_task t growth graph)) cycle 0) = sum_by-IsPermutation v (cycle_jobs (alone soft_limit cycle (with_longer_task t growth graph)) cycle 0) own alone_jobs in
    let both : sum_by v kept + sum_by v own ≡ sum_by v (jobs_of_others set g) + sum_by v (cycle_jobs (alone soft_limit cycle (with_longer_task t growth graph)) cycle 0) = λ i. first i + second i in
    sym (items v) ∙ sum_by-append v kept own ∙ both ∙ sym (split-sum set g t growth soft_limit graph f cycle at)
