-- Slot schedules: raw windows and precedence alone. Derived windows do not occur, and nothing is
-- said of how a schedule is found.
use Rattle.std.specs.Prelude.{◌≡◌, ℕ, ◌+◌, ◌-◌, ◌≤◌, ◌<◌, Bool, false, true, ◌==◌, List, length, count_by, slice_get, Option, Some, None}
use Rattle.slot_core.specs.declared.jobs.Job.{Job}
use Rattle.slot_core.specs.declared.tasks.TaskSet.{TaskSet}
use Rattle.slot_core.specs.Offline.Windows.{raw_release, raw_deadline, precedes}

-- a slot of a schedule is empty, or holds a job by its number in the list
abbrev pub holds : ℕ → Option ℕ → Bool
holds n None = false
holds n (Some m) = n == m

-- these slots, from time t on and up to `end`, are a schedule of the jobs
pub record IsSchedule
    (set : TaskSet) (jobs : List Job) (t end : ℕ) (slots : List (Option ℕ)) : Type 0 where
  -- one slot for each time
  pub whole : length slots ≡ end - t
  -- each slot is empty or holds a job of the list
  pub named : (u n : ℕ) → slice_get slots u ≡ Some (Some n) → n < length jobs
  -- each job that is due by the end has exactly its slots left
  pub served :
      (n : ℕ) (job : Job) → slice_get jobs n ≡ Some job
      → raw_deadline set job ≤ end → count_by (holds n) slots ≡ job.left
  -- no job has a slot outside its raw window
  pub within :
      (u n : ℕ) (job : Job) → slice_get slots u ≡ Some (Some n) → slice_get jobs n ≡ Some job
      → (raw_release set job ≤ t + u) × (t + u < raw_deadline set job)
  -- each slot of a job lies after every slot of its predecessors
  pub ordered :
      (u v m n : ℕ) (before after : Job)
      → slice_get slots u ≡ Some (Some m) → slice_get slots v ≡ Some (Some n)
      → slice_get jobs m ≡ Some before → slice_get jobs n ≡ Some after
      → precedes set before.key after.key ≡ true → u < v

-- some schedule of the jobs exists
abbrev pub HasSchedule : TaskSet → List Job → ℕ → ℕ → Type 0
HasSchedule set jobs t end = (slots : List (Option ℕ)) × IsSchedule set jobs t end slots
