-- The windows of offline jobs, over any number of cycles.
use Rattle.std.proofs.Common.{◌≡◌, ℕ, zero, suc, ◌+◌, ◌<◌, ◌≤◌, true, refl, ap, sym, inl, inr, eqb-true, arith}
use Rattle.std.proofs.lemmas.Bool.{and_parts, false≢true}
use Rattle.std.proofs.lemmas.List.Elements.{Contains-append_cases}
use Rattle.std.specs.Prelude.{Contains, slice_get, Some, ◌&&◌, ◌==◌}
use Rattle.slot_core.specs.declared.jobs.Key.{Key}
use Rattle.slot_core.specs.declared.jobs.Key.TheVariants.{Offline, Sporadic, Firm, Soft}
use Rattle.slot_core.specs.Offline.Keys.{is_offline}
use Rattle.slot_core.specs.declared.jobs.Job.{Job}
use Rattle.slot_core.specs.declared.tasks.Task.{Task}
use Rattle.slot_core.specs.declared.tasks.Graph.{Graph}
use Rattle.slot_core.specs.declared.tasks.TaskSet.{TaskSet}
use Rattle.slot_core.specs.Sets.Cycles.{cycle_of}
use Rattle.slot_core.specs.Sets.Ranges.{is_sound}
use Rattle.slot_core.specs.Offline.Precedence.{wcet_of, comes_after, longest_before, longest_after}
use Rattle.slot_core.specs.Offline.OfflineJobs.{tasks_of, cycle_jobs, offline_jobs}
use Rattle.slot_core.specs.Offline.Windows.{precedes}
use Rattle.slot_facts.proofs.Offline.Chains.{longest_before-step, longest_after-step}
use Rattle.slot_facts.proofs.Offline.Cycles.{IsOfCycle, IsOfCycle-from_cycle}
use Rattle.slot_facts.proofs.Offline.Jobs.{IsInstance, offline_from_cycles, HasNoLoop-from_sound}

-- an offline job of the first cycles is one of a cycle among them
pub IsOfCycle-from_offline : (set : TaskSet) (cycles : ℕ) (job : Job) → is_sound set ≡ true → Contains (offline_jobs set (cycle_of set) cycles) job → (n : ℕ) × (n < cycles) × IsOfCycle set n job
IsOfCycle-from_offline set zero job sound (k, below, at) = absurd (omega arith)
IsOfCycle-from_offline set (suc n) job sound at =
    elim (Contains-append_cases (offline_jobs set (cycle_of set) n) (cycle_jobs set (cycle_of set) n) job at) [
      | inl early ↦ let more = IsOfCycle-from_offline set n job sound early in (more.0, omega (arith, more.1), more.2)
      | inr late ↦ (n, omega arith, IsOfCycle-from_cycle set n job sound late)
    ]

-- two instances with one key are one job
same_instance : (set : TaskSet) (a b : Job) (g t k h u l : ℕ) (graph graph' : Graph) (task task' : Task) → IsInstance set a g t k graph task → IsInstance set b h u l graph' task' → a.key ≡ b.key → a ≡ b
same_instance set a b g t k h u l graph graph' task task' ia ib same =
    let ka = ap (λ (j : Job). j.key) ia.derived in
    let kb = ap (λ (j : Job). j.key) ib.derived in
    cc

-- two offline jobs with one key are one job
pub same_offline-from_key : (set : TaskSet) (cycles : ℕ) (a b : Job) → Contains (offline_jobs set (cycle_of set) cycles) a → Contains (offline_jobs set (cycle_of set) cycles) b → a.key ≡ b.key → a ≡ b
same_offline-from_key set cycles a b at_a at_b same =
    let x = offline_from_cycles set (cycle_of set) cycles a at_a in
    let y = offline_from_cycles set (cycle_of set) cycles b at_b in
    same_instance set a b x.g x.t x.k y.g y.t y.k x.graph y.graph x.task y.task x.instance_of y.instance_of same

-- a predecessor starts before the job, and is due before it
pub record IsBefore (before after : Job) : Type 0 where
  pub starts : before.est < after.est
  pub due : 0 < after.dl → before.dl < after.dl

-- the declared slots of an instance are those of its task
wcet_of-instance : (set : TaskSet) (job : Job) (g t k : ℕ) (graph : Graph) (task : Task) → IsInstance set job g t k graph task → wcet_of (tasks_of set g) t ≡ job.declared
wcet_of-instance set job g t k graph task i =
    let declared = ap (λ (j : Job). j.declared) i.derived in
    rw (i.graph_at, i.task_at) (sym declared)

-- of two jobs of one instance of a graph, the one whose chains hold the other's
IsBefore-in_instance : (set : TaskSet) (a b : Job) (g t u k : ℕ) (graph : Graph) (task task' : Task) → IsInstance set a g t k graph task → IsInstance set b g u k graph task' → longest_before (tasks_of set g) t + wcet_of (tasks_of set g) t ≤ longest_before (tasks_of set g) u → longest_after (tasks_of set g) u + wcet_of (tasks_of set g) u ≤ longest_after (tasks_of set g) t → 1 ≤ a.declared → 1 ≤ b.declared → IsBefore a b
IsBefore-in_instance set a b g t u k graph task task' ia ib starts ends some_a some_b =
    let sa = ap (λ (j : Job). j.est) ia.derived in
    let sb = ap (λ (j : Job). j.est) ib.derived in
    let da = ap (λ (j : Job). j.dl) ia.derived in
    let db = ap (λ (j : Job). j.dl) ib.derived in
    let slots_a = wcet_of-instance set a g t k graph task ia in
    let slots_b = wcet_of-instance set b g u k graph task' ib in
    record { starts = omega (arith, sa, sb, slots_a); due = λ late. omega (arith, da, db, slots_b) }

-- one index names one graph
same_graph : (set : TaskSet) (g h : ℕ) (graph graph' : Graph) → slice_get set.graphs g ≡ Some graph → slice_get set.graphs h ≡ Some graph' → g ≡ h → graph' ≡ graph
same_graph set g h graph graph' at at' same = cc

-- the same of two instances, one of which lists the other
IsBefore-from_instances : (set : TaskSet) (a b : Job) (g t k h u l : ℕ) (graph graph' : Graph) (task task' : Task) → is_sound set ≡ true → IsInstance set a g t k graph task → IsInstance set b h u l graph' task' → precedes set (Offline g t k) (Offline h u l) ≡ true → 1 ≤ a.declared → 1 ≤ b.declared → IsBefore a b
IsBefore-from_instances set a b g t k h u l graph graph' task task' sound ia ib first some_a some_b =
    let parts = and_parts (g == h && k == l) (comes_after (tasks_of set h) u t) first in
    let both = and_parts (g == h) (k == l) parts.0 in
    let gs = eqb-true g h both.0 in
    let ks = eqb-true k l both.1 in
    let whole = same_graph set g h graph graph' ia.graph_at ib.graph_at gs in
    let in_g = rw (← gs) at (rw (← ks) at (rw whole at ib)) in
    let listed : comes_after (tasks_of set g) u t ≡ true = rw gs parts.1 in
    let loopless = HasNoLoop-from_sound set g sound in
    IsBefore-in_instance set a b g t u k graph task task' ia in_g (longest_before-step (tasks_of set g) u t loopless listed) (longest_after-step (tasks_of set g) u t loopless listed) some_a some_b

-- a direct predecessor starts before its successor, and is due before it
pub IsBefore-from_precedes : (set : TaskSet) (cycles : ℕ) (a b : Job) → is_sound set ≡ true → Contains (offline_jobs set (cycle_of set) cycles) a → Contains (offline_jobs set (cycle_of set) cycles) b → precedes set a.key b.key ≡ true → IsBefore a b
IsBefore-from_precedes set cycles a b sound at_a at_b first =
    let x = offline_from_cycles set (cycle_of set) cycles a at_a in
    let y = offline_from_cycles set (cycle_of set) cycles b at_b in
    let ka = ap (λ (j : Job). j.key) x.instance_of.derived in
    let kb = ap (λ (j : Job). j.key) y.instance_of.derived in
    let some_a = (IsOfCycle-from_offline set cycles a sound at_a).2.some in
    let some_b = (IsOfCycle-from_offline set cycles b sound at_b).2.some in
    IsBefore-from_instances set a b x.g x.t x.k y.g y.t y.k x.graph y.graph x.task y.task sound x.instance_of y.instance_of (rw (ka, kb) at first) some_a some_b

-- a predecessor and its successor are offline jobs
pub precedes-offline : (set : TaskSet) (a b : Key) → precedes set a b ≡ true → (is_offline a ≡ true) × (is_offline b ≡ true)
precedes-offline set (Offline g t k) (Offline h u l) e = (refl, refl)
precedes-offline set (Offline g t k) b e = absurd (false≢true e)
precedes-offline set (Sporadic i r) b e = absurd (false≢true e)
precedes-offline set (Firm r) b e = absurd (false≢true e)
precedes-offline set (Soft r) b e = absurd (false≢true e)
