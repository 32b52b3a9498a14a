-- The offline jobs of a feasible set, over any number of cycles.
use Rattle.std.proofs.Common.{◌≡◌, ℕ, ◌+◌, ◌-◌, ◌*◌, ◌/◌, ◌<◌, ◌≤◌, true, Option, Some, arith, refl, sym, subst, ap, List}
use Rattle.std.specs.Prelude.{Contains, slice_get, All}
use Rattle.std.specs.Option.{option_map_or}
use Rattle.std.proofs.Math.Nat.{mul-le-mul_right}
use Rattle.slot_core.specs.declared.jobs.Key.TheVariants.{Offline}
use Rattle.slot_core.specs.declared.jobs.Job.{Job}
use Rattle.slot_core.specs.declared.tasks.Task.{Task}
use Rattle.slot_core.specs.declared.tasks.Graph.{Graph}
use Rattle.slot_core.specs.declared.tasks.TaskSet.{TaskSet}
use Rattle.slot_core.specs.Sets.Cycles.{cycle_of}
use Rattle.slot_core.specs.Sets.Ranges.{is_sound}
use Rattle.slot_core.specs.Offline.OfflineJobs.{release_of, deadline_of, chain_before, chain_after, derived_job, cycle_jobs}
use Rattle.slot_core.specs.Offline.Windows.{raw_release, raw_deadline}
use Rattle.slot_facts.proofs.Offline.Jobs.{offline_from_cycle, cycle-multiple}
use Rattle.slot_facts.proofs.Sets.Ranges.{GraphFits}
use Rattle.slot_facts.proofs.Offline.LaterCycles.{GraphFits-from_sound, wcet-from_sound}
use Rattle.std.specs.List.Sorted.{IsPermutation}
use Rattle.std.proofs.lemmas.List.Elements.{All-from_recursion}
use Rattle.std.proofs.lemmas.List.Sorted.{All-permutation}
use Rattle.slot_facts.proofs.Lists.Members.{Has, Contains-from_Has, AllByRecursion-from_Has}

-- a job of cycle n lies in it, and its derived window in its raw one
pub record IsOfCycle (set : TaskSet) (n : ℕ) (job : Job) : Type 0 where
  pub starts : n * cycle_of set ≤ job.est
  pub ends : job.dl ≤ (n + 1) * cycle_of set
  pub released : raw_release set job ≤ job.est
  pub due : job.dl ≤ raw_deadline set job
  pub some : 1 ≤ job.declared
  pub whole : job.left ≡ job.declared

-- the instances of cycle n are released in it
released_in_cycle : (n q period cycle k : ℕ) → q * period ≡ cycle → n * q ≤ k → n * cycle ≤ k * period
released_in_cycle n q period cycle k e h = omega (arith, ap (λ c. n * c) e, mul-le-mul_right period h)

due_in_cycle : (n q period cycle k : ℕ) → q * period ≡ cycle → k < (n + 1) * q → k * period + period ≤ (n + 1) * cycle
due_in_cycle n q period cycle k e h = omega (arith, ap (λ c. (n + 1) * c) e, mul-le-mul_right period h)

-- the raw window of an instance
option_map_or-some : {A : Type 0} (f : A → ℕ) (o : Option A) (x : A) (d : ℕ) → o ≡ Some x → option_map_or f o d ≡ f x
option_map_or-some f o x d e = rw e

-- an instance of cycle n lies in it
IsOfCycle-from_instance : (set : TaskSet) (n g t k : ℕ) (graph : Graph) (task : Task) → is_sound set ≡ true → slice_get set.graphs g ≡ Some graph → slice_get graph.tasks t ≡ Some task → n * (cycle_of set / graph.period) ≤ k → k < (n + 1) * (cycle_of set / graph.period) → IsOfCycle set n (derived_job set (record { key = Offline g t k; release = release_of graph k; deadline = deadline_of graph k; wcet = task.wcet }))
IsOfCycle-from_instance set n g t k graph task sound graph_at task_at low high =
    let fits : GraphFits graph = GraphFits-from_sound set g graph sound graph_at in
    let whole : (cycle_of set / graph.period) * graph.period ≡ cycle_of set = cycle-multiple set g graph sound graph_at in
    let starts : n * cycle_of set ≤ k * graph.period = released_in_cycle n (cycle_of set / graph.period) graph.period (cycle_of set) k whole low in
    let ends : k * graph.period + graph.period ≤ (n + 1) * cycle_of set = due_in_cycle n (cycle_of set / graph.period) graph.period (cycle_of set) k whole high in
    record {
      starts = omega arith;
      ends = omega (arith, fits.within);
      released = omega (arith, option_map_or-some (λ (gr : Graph). release_of gr k) (slice_get set.graphs g) graph (release_of graph k + chain_before set (Offline g t k)) graph_at);
      due = omega (arith, option_map_or-some (λ (gr : Graph). deadline_of gr k) (slice_get set.graphs g) graph (deadline_of graph k - chain_after set (Offline g t k)) graph_at);
      some = wcet-from_sound set g t graph task sound graph_at task_at;
      whole = refl;
    }

pub IsOfCycle-from_cycle : (set : TaskSet) (n : ℕ) (job : Job) → is_sound set ≡ true → Contains (cycle_jobs set (cycle_of set) n) job → IsOfCycle set n job
IsOfCycle-from_cycle set n job sound at =
    let o = offline_from_cycle set (cycle_of set) n job at in
    subst
    (IsOfCycle set n)
    (sym o.instance_of.derived)
    (IsOfCycle-from_instance set n o.g o.t o.k o.graph o.task sound o.instance_of.graph_at o.instance_of.task_at o.at_least o.below)

-- the jobs of the first cycle of a sound set are due in it
pub all_due_by : (set : TaskSet) (jobs : List Job) (cycle : ℕ) → is_sound set ≡ true → cycle ≡ cycle_of set → IsPermutation (cycle_jobs set cycle 0) jobs → All (λ (j : Job). j.dl ≤ cycle) jobs
all_due_by set jobs cycle sound whole listed =
    let due : Job → Type 0 = λ (j : Job). j.dl ≤ cycle in
    let first = cycle_jobs set cycle 0 in
    let each = λ (j : Job) (h : Has first j).
    let own : IsOfCycle set 0 j = IsOfCycle-from_cycle set 0 j sound (Contains-from_Has (cycle_jobs set (cycle_of set) 0) j (subst (λ n. Has (cycle_jobs set n 0) j) whole h)) in
    let le : j.dl ≤ cycle = omega (arith, own.ends) in
    le in
    All-permutation due first jobs listed (All-from_recursion due first (AllByRecursion-from_Has due first each))
