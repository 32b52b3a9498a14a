-- The jobs of graphs have their worst cases in time.
use Rattle.std.proofs.Common.{◌≡◌, ℕ, ◌+◌, ◌*◌, ◌/◌, ◌≤◌, ◌<◌, true, Option, Some, refl, ap, inl, inr, arith}
use Rattle.std.specs.Prelude.{slice_get, Contains}
use Rattle.std.specs.Option.{option_map_or}
use Rattle.std.proofs.Math.Nat.{mul-le-mul_right, mul_assoc}
use Rattle.std.proofs.lemmas.Bool.{cases_lt}
use Rattle.slot_core.specs.declared.jobs.Key.TheVariants.{Offline}
use Rattle.slot_core.specs.declared.jobs.Job.{Job}
use Rattle.slot_core.specs.declared.tasks.Task.{Task}
use Rattle.slot_core.specs.declared.tasks.Graph.{Graph}
use Rattle.slot_core.specs.declared.tasks.TaskSet.{TaskSet}
use Rattle.slot_core.specs.Sets.Cycles.{cycle_of}
use Rattle.slot_core.specs.Sets.Ranges.{is_sound}
use Rattle.slot_core.specs.Offline.OfflineJobs.{raw_job, derived_job, release_of, deadline_of, offline_jobs}
use Rattle.slot_core.specs.Offline.Windows.{raw_release, raw_deadline}
use Rattle.slot_core.specs.Runs.Histories.{History, time_of}
use Rattle.slot_core.specs.Runs.Scenes.{guaranteed}
use Rattle.slot_facts.proofs.Legal.Bounds.{below_end}
use Rattle.slot_facts.proofs.Legal.Jobs.{guaranteed-offline}
use Rattle.slot_facts.proofs.Legal.Served.{every_legal_history_is_served}
use Rattle.slot_facts.proofs.Lists.Members.{Has-from_Contains, Contains-from_Has}
use Rattle.slot_facts.proofs.Offline.Jobs.{IsOfflineJob, cycles_from_offline, cycle-multiple, cycle-positive}
use Rattle.clock_laws.specs.Service.{release_at, due_at, GraphsAreServed}
use Rattle.clock_laws.proofs.Nanos.{nanos-wider, slots_give_time}
use Rattle.clock_laws.proofs.Parts.{worth, GraphAt-from_derived, TaskAt-from_graph, some-slot, wcet-held, release-inside, deadline-inside}
use Rattle.clock_laws.proofs.Roundings.{le-of_pieces}

-- the job of a task of a graph in one instance
abbrev pub job_of : TaskSet → ℕ → Graph → ℕ → ℕ → Task → Job
job_of set g graph t k task = derived_job set (raw_job g graph k (t, task))

-- what is found at a place
pub at-place : {A : Type 0} (f : A → ℕ) (x : A) (other : ℕ) (o : Option A) → o ≡ Some x → option_map_or f o other ≡ f x
at-place f x other o e = ap (λ p. option_map_or f p other) e

-- its raw window
pub raw-window : (set : TaskSet) (g t k : ℕ) (graph : Graph) (task : Task) → slice_get set.graphs g ≡ Some graph → (raw_release set (job_of set g graph t k task) ≡ release_of graph k) × (raw_deadline set (job_of set g graph t k task) ≡ deadline_of graph k)
raw-window set g t k graph task at =
    let job = job_of set g graph t k task in
    (at-place (λ (x : Graph). release_of x k) graph job.est (slice_get set.graphs g) at, at-place (λ (x : Graph). deadline_of x k) graph job.dl (slice_get set.graphs g) at)

-- an instance that is released before the end of so many cycles is one of theirs
instance-below : (q period cycle n k : ℕ) → 0 < period → q * period ≡ cycle → k * period < n * cycle → k < n * q
instance-below q period cycle n k some whole before =
    elim (cases_lt k (n * q)) [
      | inl below ↦ below
      | inr past ↦
          absurd (omega (arith, mul-le-mul_right period past, mul_assoc n q period, ap (λ c. n * c) whole))
    ]

-- a job that is released by the time of a run is one of its guaranteed jobs
pub guaranteed-instance : (set : TaskSet) (h : History) (g t k : ℕ) (graph : Graph) (task : Task) → is_sound set ≡ true → slice_get set.graphs g ≡ Some graph → slice_get graph.tasks t ≡ Some task → 1 ≤ graph.period → k * graph.period ≤ time_of h
    → Contains (guaranteed set (cycle_of set) h) (job_of set g graph t k task)
guaranteed-instance set h g t k graph task sound graph_at task_at some released =
    let cycle = cycle_of set in
    let cycles = time_of h / cycle + 3 in
    let job = job_of set g graph t k task in
    let whole = cycle-multiple set g graph sound graph_at in
    let end = below_end (time_of h) cycle cycles (cycle-positive set sound) (omega arith) in
    let below = instance-below (cycle / graph.period) graph.period cycle cycles k (omega arith) whole (omega (arith, end, released)) in
    let offline : IsOfflineJob set cycle 0 cycles job = record {
      g = g;
      t = t;
      k = k;
      graph = graph;
      task = task;
      instance_of = record { graph_at = graph_at; task_at = task_at; derived = refl };
      at_least = omega arith;
      below = omega (arith, below);
    } in
    let listed = Has-from_Contains (offline_jobs set cycle cycles) job (cycles_from_offline set cycle cycles job offline) in
    Contains-from_Has (guaranteed set cycle h) job (guaranteed-offline set cycles h job listed)

pub graphs_are_served : GraphsAreServed
graphs_are_served physical set h has g t k own task run graph_at task_at due kept =
    let (some, value, less) = some-slot physical set run.derived in
    let found = GraphAt-from_derived physical set g own run.derived graph_at in
    let graph = found.graph in
    let item = TaskAt-from_graph physical.slot (worth physical) g t own graph task found.parts task_at in
    let job = job_of set g graph t k item.task in
    let (released, ends) = raw-window set g t k graph item.task found.at in
    let starts = release-inside physical.slot (worth physical) g k own graph some found.parts in
    let stops = deadline-inside physical.slot (worth physical) g k own graph some found.parts in
    let in_slots = le-of_pieces physical.slot (deadline_of graph k) (time_of h) some (omega (arith, stops, due)) in
    let listed = guaranteed-instance set h g t k graph item.task run.sound found.at item.at found.parts.some.0 (omega (arith, in_slots)) in
    let served = (every_legal_history_is_served set h run.sound run.feasible run.legal).0 in
    let got = slots_give_time set (cycle_of set) physical.slot physical.overhead has h job less served run.given listed (omega (arith, in_slots)) kept in
    let held = wcet-held (worth physical) task.wcet item.task.wcet value item.parts.wcet.is in
    omega (arith, held, got, nanos-wider has (Offline g t k) (raw_release set job * physical.slot) (raw_deadline set job * physical.slot) (release_at own k) (due_at own k) (omega (arith, starts, ap (λ n. n * physical.slot) released)) (omega (arith, stops, ap (λ n. n * physical.slot) ends)))
