-- A slot schedule keeps to derived windows, so it fits its work.
use Rattle.std.proofs.Common.{◌≡◌, ℕ, ◌+◌, ◌-◌, ◌*◌, ◌/◌, ◌<◌, ◌≤◌, Bool, true, cond, List, length, Option, Some, refl, sym, ap, ◌∙◌, inl, inr, arith}
use Rattle.std.specs.Prelude.{Contains, slice_get, count_by, sum_by, nat_le}
use Rattle.std.specs.List.{range_with_len}
use Rattle.std.proofs.lemmas.Bool.{cases_Bool, leb-true}
use Rattle.slot_core.specs.declared.jobs.Key.{Key}
use Rattle.slot_core.specs.declared.jobs.Key.TheVariants.{Offline}
use Rattle.slot_core.specs.declared.jobs.Job.{Job}
use Rattle.slot_core.specs.declared.tasks.Task.{Task}
use Rattle.slot_core.specs.declared.tasks.Graph.{Graph}
use Rattle.slot_core.specs.declared.tasks.TaskSet.{TaskSet}
use Rattle.slot_core.specs.Offline.Keys.{is_offline}
use Rattle.slot_core.specs.Sets.Cycles.{cycle_of}
use Rattle.slot_core.specs.Sets.Ranges.{is_sound}
use Rattle.slot_core.specs.Offline.Precedence.{comes_after, predecessors, successors, longest_before, longest_after}
use Rattle.slot_core.specs.Offline.OfflineJobs.{offline_jobs, release_of, deadline_of, derived_job, raw_job}
use Rattle.slot_core.specs.Offline.Windows.{raw_deadline, precedes}
use Rattle.slot_core.specs.Claims.Schedules.{holds, IsSchedule}
use Rattle.slot_core.specs.Keeping.Kept.{ArePlanned, SuccessorsWait, PredecessorsWait}
use Rattle.slot_facts.specs.Schedules.{SlotsLieBeforeDerivedDeadlines, SlotsLieAfterDerivedStarts, AScheduleFitsItsWork}
use Rattle.slot_facts.proofs.Lists.Members.{Has-from_Contains, Contains-from_Has, Has-from_slice_get, Has-filter_passes, Has-range_with_len_bounds}
use Rattle.slot_facts.proofs.Lists.MemberSums.{place_of_member}
use Rattle.slot_facts.proofs.Sets.Tasks.{tasks_at, wcet_at, slice_get-within}
use Rattle.slot_facts.proofs.Offline.Jobs.{IsOfflineJob, offline_from_cycles, cycles_from_offline}
use Rattle.slot_facts.proofs.Offline.LaterCycles.{wcet-from_sound}
use Rattle.slot_facts.proofs.Scheduling.Chains.{IsWhole, HasInstance, precedes-from_after, raw_deadline-offline, not_before_start, before_deadline}
use Rattle.slot_facts.proofs.Scheduling.Counts.{count_in_window, holds_passing, held_item, sum_by-le_slots}
use Rattle.slot_facts.proofs.Scheduling.Raw.{release_or-other, deadline_or-other}

-- the numbers of an offline job of the list, which is a job of the set in these cycles
pub record IsListedOf (set : TaskSet) (cycles : ℕ) (job : Job) (g t k : ℕ) (graph : Graph) : Type 0 where
  pub graph_at : slice_get set.graphs g ≡ Some graph
  pub key : job.key ≡ Offline g t k
  pub starts : job.est ≡ release_of graph k + longest_before graph.tasks t
  pub ends : job.dl ≡ deadline_of graph k - longest_after graph.tasks t
  pub below : k < cycles * (cycle_of set / graph.period)

-- an offline job has such numbers
listed-from_offline : (set : TaskSet) (cycles : ℕ) (job : Job) → IsOfflineJob set (cycle_of set) 0 cycles (record job { left = job.declared }) → (g t k : ℕ) × (graph : Graph) × IsListedOf set cycles job g t k graph
listed-from_offline set cycles job x =
    let i = x.instance_of in
    let tasks = tasks_at set x.g x.graph i.graph_at in (
      x.g,
      x.t,
      x.k,
      x.graph,
      record {
        graph_at = i.graph_at;
        key = ap (λ (j : Job). j.key) i.derived;
        starts = ap (λ (j : Job). j.est) i.derived ∙ ap (λ ts. release_of x.graph x.k + longest_before ts x.t) tasks;
        ends = ap (λ (j : Job). j.dl) i.derived ∙ ap (λ ts. deadline_of x.graph x.k - longest_after ts x.t) tasks;
        below = omega (arith, x.below);
      },
    )

-- so has an offline job of a planned list
pub listed-from_planned : (set : TaskSet) (cycles : ℕ) (jobs : List Job) (job : Job) → ArePlanned set (cycle_of set) cycles jobs → Contains jobs job → is_offline job.key ≡ true → (g t k : ℕ) × (graph : Graph) × IsListedOf set cycles job g t k graph
listed-from_planned set cycles jobs job planned at offline =
    listed-from_offline set cycles job (offline_from_cycles set (cycle_of set) cycles (record job { left = job.declared }) (planned job at offline))

-- a job of another task of such an instance
pub job_of_task : (set : TaskSet) (cycles g k s : ℕ) (graph : Graph) (task : Task) → slice_get set.graphs g ≡ Some graph → slice_get graph.tasks s ≡ Some task → k < cycles * (cycle_of set / graph.period) → Contains (offline_jobs set (cycle_of set) cycles) (derived_job set (raw_job g graph k (s, task)))
job_of_task set cycles g k s graph task graph_at task_at below =
    cycles_from_offline set (cycle_of set) cycles (derived_job set (raw_job g graph k (s, task)))
    (record {
      g = g;
      t = s;
      k = k;
      graph = graph;
      task = task;
      instance_of = record { graph_at = graph_at; task_at = task_at; derived = refl };
      at_least = omega arith;
      below = omega (arith, below);
    })

-- where that job is listed, all its slots are left
whole-from_listed : (set : TaskSet) (jobs : List Job) (g k s : ℕ) (graph : Graph) (task : Task) → is_sound set ≡ true → slice_get set.graphs g ≡ Some graph → slice_get graph.tasks s ≡ Some task → Contains jobs (derived_job set (raw_job g graph k (s, task))) → (n : ℕ) × (job : Job) × IsWhole jobs g k graph s n job
whole-from_listed set jobs g k s graph task sound graph_at task_at listed =
    let job = derived_job set (raw_job g graph k (s, task)) in
    let place = place_of_member jobs job (Has-from_Contains jobs job listed) in (
      place.0,
      job,
      record {
        own = record { listed = place.1; key = refl };
        left = sym (wcet_at graph.tasks s task task_at);
        some = wcet-from_sound set g s graph task sound graph_at task_at;
      },
    )

module _ (set : TaskSet) (cycles : ℕ) (jobs : List Job) (end : ℕ) (slots : List (Option ℕ)) (sound : is_sound set ≡ true) (g k : ℕ) (graph : Graph) (graph_at : slice_get set.graphs g ≡ Some graph) (due : deadline_of graph k ≤ end) (below : k < cycles * (cycle_of set / graph.period)) where
  -- a successor of a job waits, with all its slots
  HasInstance-successors : SuccessorsWait set (cycle_of set) cycles jobs → HasInstance set jobs end slots g k graph (successors graph.tasks)
  HasInstance-successors wait =
      record {
        graph_at = graph_at;
        due = due;
        waits = λ t s u next stands.
            let f = Has-filter_passes (λ q. comes_after graph.tasks q t) (range_with_len 0 (length graph.tasks)) s next in
            let b = slice_get-within graph.tasks s (omega (arith, Has-range_with_len_bounds 0 (length graph.tasks) s f.0)) in
            let own = stands.2 in
            let first = ap (λ (q : Key). precedes set q (Offline g s k)) own.key ∙ precedes-from_after set g k s t graph graph_at f.1 in
            whole-from_listed set jobs g k s graph b.0 sound graph_at b.1
            (wait stands.1 (derived_job set (raw_job g graph k (s, b.0))) (Contains-from_Has jobs stands.1 (Has-from_slice_get jobs stands.0 stands.1 own.listed)) (job_of_task set cycles g k s graph b.0 graph_at b.1 below) first);
      }

  -- so does a predecessor
  HasInstance-predecessors : PredecessorsWait set (cycle_of set) cycles jobs → HasInstance set jobs end slots g k graph (predecessors graph.tasks)
  HasInstance-predecessors wait =
      record {
        graph_at = graph_at;
        due = due;
        waits = λ t s u next stands.
            let f = Has-filter_passes (λ p. comes_after graph.tasks t p) (range_with_len 0 (length graph.tasks)) s next in
            let b = slice_get-within graph.tasks s (omega (arith, Has-range_with_len_bounds 0 (length graph.tasks) s f.0)) in
            let own = stands.2 in
            let first = ap (λ (q : Key). precedes set (Offline g s k) q) own.key ∙ precedes-from_after set g k t s graph graph_at f.1 in
            whole-from_listed set jobs g k s graph b.0 sound graph_at b.1
            (wait (derived_job set (raw_job g graph k (s, b.0))) stands.1 (Contains-from_Has jobs stands.1 (Has-from_slice_get jobs stands.0 stands.1 own.listed)) (job_of_task set cycles g k s graph b.0 graph_at b.1 below) first);
      }

-- an offline job of a planned list is one of an instance, due by the end if its raw deadline is
instance_at : (set : TaskSet) (cycles end n : ℕ) (jobs : List Job) (job : Job) → ArePlanned set (cycle_of set) cycles jobs → slice_get jobs n ≡ Some job → is_offline job.key ≡ true → raw_deadline set job ≤ end → (g s k : ℕ) × (graph : Graph) × IsListedOf set cycles job g s k graph × (deadline_of graph k ≤ end)
instance_at set cycles end n jobs job planned listed offline due =
    let r = listed-from_planned set cycles jobs job planned (Contains-from_Has jobs job (Has-from_slice_get jobs n job listed)) offline in
    let (g, s, k, graph, own) = r in
    let ends = raw_deadline-offline set job g s k graph own.graph_at own.key in
    (g, s, k, graph, own, omega (arith, due, ends))

-- every slot of a job lies before its derived deadline
pub slots_lie_before_derived_deadlines : SlotsLieBeforeDerivedDeadlines
slots_lie_before_derived_deadlines set cycles jobs t end u n slots job sound planned wait schedule at listed due =
    let inside = schedule.within u n job at listed in
    elim (cases_Bool (is_offline job.key)) [
      | inl offline ↦
          let (g, s, k, graph, own, ends) = instance_at set cycles end n jobs job planned listed offline (due offline) in
          let has = HasInstance-successors set cycles jobs end slots sound g k graph own.graph_at ends own.below wait in
          let before = before_deadline set jobs t end slots g k graph schedule has s u (n, job, record { listed = listed; key = own.key }, at) in
          omega (arith, before, own.ends)
      | inr other ↦ omega (arith, inside.1, deadline_or-other set job.key job.dl other)
    ]

-- and at or after its derived start
pub slots_lie_after_derived_starts : SlotsLieAfterDerivedStarts
slots_lie_after_derived_starts set cycles jobs t end u n slots job sound planned wait schedule at listed due =
    let inside = schedule.within u n job at listed in
    elim (cases_Bool (is_offline job.key)) [
      | inl offline ↦
          let (g, s, k, graph, own, ends) = instance_at set cycles end n jobs job planned listed offline (due offline) in
          let has = HasInstance-predecessors set cycles jobs end slots sound g k graph own.graph_at ends own.below wait in
          let after = not_before_start set jobs t end slots g k graph schedule has s u (n, job, record { listed = listed; key = own.key }, at) in
          omega (arith, after, own.starts)
      | inr other ↦ omega (arith, inside.0, release_or-other set job.key job.est other)
    ]

-- where each slot of the jobs that pass lies in a window, their slots left fit there
pub work_in_window : (set : TaskSet) (jobs : List Job) (t end low high : ℕ) (slots : List (Option ℕ)) (test : Job → Bool) → IsSchedule set jobs t end slots → ((n : ℕ) (job : Job) → slice_get jobs n ≡ Some job → test job ≡ true → raw_deadline set job ≤ end) → ((u n : ℕ) (job : Job) → slice_get slots u ≡ Some (Some n) → slice_get jobs n ≡ Some job → test job ≡ true → (low ≤ t + u) × (t + u < high)) → t ≤ low → sum_by (λ (j : Job). cond (test j) j.left 0) jobs ≤ high - low
work_in_window set jobs t end low high slots test schedule due inside after =
    let left = sum_by-le_slots test (λ (j : Job). j.left) 0 jobs slots (λ k m job e listed passes.
    let same : k ≡ m = omega arith in
    let served = schedule.served k job listed (due k job listed passes) in
    omega (arith, served, ap (λ n. count_by (holds n) slots) same)) in
    let count = count_in_window (holds_passing test 0 jobs) slots t low high (λ u slot at held.
    let r = held_item test 0 jobs slot held in
    let same : r.1 ≡ r.0 = omega (arith, r.3.number) in
    inside u r.0 r.2 (at ∙ ap Some r.3.held ∙ ap (λ n. Some (Some n)) same) r.3.listed r.3.passes) in
    omega (arith, left, count)

-- a slot schedule fits its work
pub a_schedule_fits_its_work : AScheduleFitsItsWork
a_schedule_fits_its_work set cycles jobs t end x sound planned wait due high (slots, schedule) =
    let early = λ (j : Job). nat_le j.dl x in
    let ends = λ (n : ℕ) (job : Job) (listed : slice_get jobs n ≡ Some job) (passes : nat_le job.dl x ≡ true).
    due job (Contains-from_Has jobs job (Has-from_slice_get jobs n job listed)) (leb-true job.dl x passes) in
    work_in_window set jobs t end t x slots early schedule ends
    (λ u n job at listed passes. (omega arith, omega (arith, leb-true job.dl x passes, slots_lie_before_derived_deadlines set cycles jobs t end u n slots job sound planned wait schedule at listed (λ _. ends n job listed passes))))
    (omega arith)
