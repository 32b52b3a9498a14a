-- Jobs nest like stack frames: the guaranteed ones among themselves, and the soft ones among
-- themselves. A job's frame is pushed at its first slot and goes when the job ends, as on the
-- shared stack of Baker 1991.
use Rattle.std.specs.Prelude.{◌≡◌, ℕ, ◌≤◌, ◌<◌, ◌⊎◌, false, true, ◌||◌, List, [], ◌∷◌, ◌++◌, Contains, nat_lt, if◌then◌else◌}
use Rattle.slot_core.specs.declared.jobs.Key.{Key}
use Rattle.slot_core.specs.declared.jobs.Key.TheVariants.{Soft as SoftKey}
use Rattle.slot_core.specs.declared.jobs.Job.{Job}
use Rattle.slot_core.specs.declared.jobs.SoftJob.{SoftJob}
use Rattle.slot_core.specs.declared.tasks.TaskSet.{TaskSet}
use Rattle.slot_core.specs.declared.events.Arrival.{Arrival}
use Rattle.slot_core.specs.declared.events.What.TheVariants.{Run}
use Rattle.slot_core.specs.Offline.Keys.{is_soft}
use Rattle.slot_core.specs.Sets.Cycles.{cycle_of}
use Rattle.slot_core.specs.Sets.Ranges.{is_sound}
use Rattle.slot_core.specs.Feasibility.Feasible.{IsFeasible}
use Rattle.slot_core.specs.Runs.Arrivals.{are_fitting}
use Rattle.slot_core.specs.Runs.Histories.{History, Follows, executed, soft_jobs}
use Rattle.slot_core.specs.Runs.Scenes.{guaranteed, has_ended, has_started, soft_has_ended}
use Rattle.slot_core.specs.Runs.Traces.{trace, history_of, IsLegal}

-- the keys of the guaranteed jobs that have started, the last first: those whose frames were
-- pushed, in that order; an ended job stays in the list though its frame is gone
abbrev pub pushed : History → List Key
pushed [] = []
pushed (Run key ∷ h) =
    if is_soft key || nat_lt 0 (executed key h) then pushed h else key ∷ pushed h
pushed (_ ∷ h) = pushed h

-- the job has a frame: it has started and not ended
abbrev pub HasFrame : History → Job → Type 0
HasFrame h job = (has_started h job ≡ true) × (has_ended h job ≡ false)

-- two guaranteed jobs of the history
pub record AreTwo (set : TaskSet) (cycle : ℕ) (h : History) (one other : Job) : Type 0 where
  pub one_listed : Contains (guaranteed set cycle h) one
  pub other_listed : Contains (guaranteed set cycle h) other
  pub apart : ¬ (one.key ≡ other.key)

-- the second job starts later than the first and is due no later, so that its derived window is
-- shorter: the preemption levels of Baker 1991, by windows
abbrev pub IsWithin : Job → Job → Type 0
IsWithin outer inner = (outer.est < inner.est) × (inner.dl ≤ outer.dl)

-- nested: one stack serves the guaranteed jobs, and another one the soft jobs
pub record IsNested (set : TaskSet) (cycle : ℕ) (h : History) : Type 0 where
  -- where a job goes on, each other one that ran since it had started has ended
  pub goes_on :
      (below above : Job) (earlier between : History) → AreTwo set cycle h below above
      → Follows h (Run below.key) earlier → Follows earlier (Run above.key) between
      → has_started between below ≡ true
      → has_ended earlier above ≡ true
  -- where a job runs, each job that was pushed after it has ended: no frame lies above its own
  pub top :
      (key : Key) (job : Job) (earlier : History) (above below : List Key)
      → Follows h (Run key) earlier → is_soft key ≡ false
      → pushed (Run key ∷ earlier) ≡ above ++ key ∷ below
      → Contains (guaranteed set cycle h) job → Contains above job.key
      → has_ended earlier job ≡ true
  -- a job that runs while another one has a frame has its window within that one's
  pub inside :
      (below above : Job) (earlier : History) → AreTwo set cycle h below above
      → Follows h (Run above.key) earlier → HasFrame earlier below
      → IsWithin below above
  -- of two jobs that have frames at one moment, one has its window within the other's: so there are
  -- at most as many frames as windows that lie within one another
  pub chain :
      (one other : Job) (later earlier : History) → AreTwo set cycle h one other
      → h ≡ later ++ earlier → HasFrame earlier one → HasFrame earlier other
      → IsWithin one other ⊎ IsWithin other one
  -- where a soft job runs, each one of a lower row has ended
  pub soft :
      (first : SoftJob) (row : ℕ) (earlier : History) → Contains (soft_jobs h) first
      → first.row < row → Follows h (Run (SoftKey row)) earlier
      → soft_has_ended earlier first ≡ true

-- every legal history of a feasible set is nested
abbrev pub EveryLegalHistoryIsNested : Type 0
EveryLegalHistoryIsNested =
    (set : TaskSet) (h : History)
    → is_sound set ≡ true → IsFeasible set (cycle_of set) → IsLegal set (cycle_of set) h
    → IsNested set (cycle_of set) h

-- so every trace of a feasible set and fitting arrivals is nested
abbrev pub EveryTraceIsNested : Type 0
EveryTraceIsNested =
    (set : TaskSet) (arrivals : List Arrival) (n : ℕ)
    → is_sound set ≡ true → IsFeasible set (cycle_of set)
    → are_fitting set n arrivals ≡ true
    → IsNested set (cycle_of set) (history_of (trace set arrivals n))
