-- What a run in slots gives to the jobs in physical time.
use Rattle.std.specs.Prelude.{◌≡◌, ℕ, ◌+◌, ◌-◌, ◌*◌, ◌≤◌, ◌<◌, true, false, slice_get, Some, Ok, Contains}
use Rattle.slot_core.specs.declared.jobs.Key.TheVariants.{Offline, Sporadic as SporadicKey, Firm as FirmKey}
use Rattle.slot_core.specs.declared.jobs.Job.{Job}
use Rattle.slot_core.specs.declared.tasks.TaskSet.{TaskSet}
use Rattle.slot_core.specs.Sets.Cycles.{cycle_of}
use Rattle.slot_core.specs.Sets.Ranges.{is_sound}
use Rattle.slot_core.specs.Feasibility.Feasible.{IsFeasible}
use Rattle.slot_core.specs.Offline.Windows.{raw_release, raw_deadline}
use Rattle.slot_core.specs.Runs.Histories.{History, time_of, is_freed, firm_jobs, sporadic_jobs, offered_job, sporadic_job}
use Rattle.slot_core.specs.Runs.Scenes.{guaranteed}
use Rattle.slot_core.specs.Runs.Traces.{IsLegal}
use Rattle.slot_core.specs.Claims.Service.{IsServed}
use Rattle.clock_units.specs.declared.sets.PhysicalTask.{PhysicalTask}
use Rattle.clock_units.specs.declared.sets.PhysicalGraph.{PhysicalGraph}
use Rattle.clock_units.specs.declared.sets.PhysicalSporadic.{PhysicalSporadic}
use Rattle.clock_units.specs.declared.sets.PhysicalSet.{PhysicalSet}
use Rattle.clock_units.specs.Rounding.{down, up}
use Rattle.clock_units.specs.Derived.{derived_set}
use Rattle.clock_laws.specs.Processor.{Processor, nanos_between, Gives, Carries}
use Rattle.clock_laws.specs.Handed.{IsAtBoundary}

-- in a history that serves its jobs, each guaranteed job that is due and was not ended early has
-- had all its slots, less their overheads, between the boundaries of its raw window
abbrev pub SlotsGiveTime : Type 0
SlotsGiveTime =
    (set : TaskSet) (cycle slot overhead : ℕ) (has : Processor) (h : History) (job : Job)
    → overhead ≤ slot
    → IsServed set cycle h → Gives slot overhead has h
    → Contains (guaranteed set cycle h) job
    → job.dl ≤ time_of h → is_freed job.key h ≡ false
    → job.declared * (slot - overhead)
    ≤ nanos_between has job.key (raw_release set job * slot) (raw_deadline set job * slot)

-- a set in physical time, its set in slots, which is sound and feasible, a legal history of that,
-- and a processor that gives the slots of that to their jobs
pub record IsRun
    (physical : PhysicalSet) (set : TaskSet) (h : History) (has : Processor) : Type 0 where
  pub derived : derived_set physical ≡ Ok set
  pub sound : is_sound set ≡ true
  pub feasible : IsFeasible set (cycle_of set)
  pub legal : IsLegal set (cycle_of set) h
  pub given : Gives physical.slot physical.overhead has h

-- when instance k of a graph is released
abbrev pub release_at : PhysicalGraph → ℕ → ℕ
release_at graph k = k * graph.period + graph.offset

-- when all of it is due
abbrev pub due_at : PhysicalGraph → ℕ → ℕ
due_at graph k = release_at graph k + graph.deadline

-- each job of a graph that is due by now and was not ended early has had its worst case between its
-- release and its deadline
abbrev pub GraphsAreServed : Type 0
GraphsAreServed =
    (physical : PhysicalSet) (set : TaskSet) (h : History) (has : Processor)
    (g t k : ℕ) (graph : PhysicalGraph) (task : PhysicalTask)
    → IsRun physical set h has
    → slice_get physical.graphs g ≡ Some graph → slice_get graph.tasks t ≡ Some task
    → due_at graph k ≤ time_of h * physical.slot → is_freed (Offline g t k) h ≡ false
    → task.wcet ≤ nanos_between has (Offline g t k) (release_at graph k) (due_at graph k)

-- each alarm that came at a time, was handed over at the next boundary and taken, is due by now and
-- was not ended early, has had its worst case between the time and its deadline
abbrev pub AlarmsAreServed : Type 0
AlarmsAreServed =
    (physical : PhysicalSet) (set : TaskSet) (h : History) (has : Processor)
    (index row at : ℕ) (s : PhysicalSporadic)
    → IsRun physical set h has
    → slice_get physical.sporadics index ≡ Some s
    → (s.at_boundaries ≡ true → IsAtBoundary physical.slot at)
    → Contains
    (sporadic_jobs set.sporadics h)
    (sporadic_job set.sporadics index row (up physical.slot at))
    → at + s.deadline ≤ time_of h * physical.slot → is_freed (SporadicKey index row) h ≡ false
    → s.wcet ≤ nanos_between has (SporadicKey index row) at (at + s.deadline)

-- the fewest slots with which a firm request of such a worst case may be offered
abbrev pub slots_asked : PhysicalSet → ℕ → ℕ
slots_asked physical wcet = up (physical.slot - physical.overhead) wcet

-- the most slots within which it may be, where it comes at a time and is due so much later
abbrev pub within_asked : PhysicalSet → ℕ → ℕ → ℕ
within_asked physical at deadline =
    down physical.slot (at + deadline) - up physical.slot at

-- each firm request that came at a time, was offered so, or with more slots or within less time, at
-- the next boundary and accepted, is due by now and was not ended early or withdrawn, has had its
-- worst case between the time and its deadline
abbrev pub RequestsAreServed : Type 0
RequestsAreServed =
    (physical : PhysicalSet) (set : TaskSet) (h : History) (has : Processor)
    (row at wcet deadline slots within : ℕ)
    → IsRun physical set h has
    → slots_asked physical wcet ≤ slots → within ≤ within_asked physical at deadline
    → Contains (firm_jobs h) (offered_job row (up physical.slot at) slots within)
    → at + deadline ≤ time_of h * physical.slot → is_freed (FirmKey row) h ≡ false
    → wcet ≤ nanos_between has (FirmKey row) at (at + deadline)

-- before now no task has the processor before each task that it comes after has had its worst case,
-- where that was not ended early
abbrev pub OrderIsKept : Type 0
OrderIsKept =
    (physical : PhysicalSet) (set : TaskSet) (h : History) (has : Processor)
    (g p t k time : ℕ) (graph : PhysicalGraph) (before after : PhysicalTask)
    → IsRun physical set h has → Carries physical.slot physical.overhead has h
    → slice_get physical.graphs g ≡ Some graph
    → slice_get graph.tasks p ≡ Some before → slice_get graph.tasks t ≡ Some after
    → Contains after.after p
    → time < time_of h * physical.slot → has time ≡ Some (Offline g t k)
    → is_freed (Offline g p k) h ≡ false
    → before.wcet ≤ nanos_between has (Offline g p k) (release_at graph k) time
