-- The same change of plan with no time shifted: it comes at time c, and all that comes after it has
-- times from c on.
use Rattle.std.specs.Prelude.{◌≡◌, ℕ, ◌+◌, ◌-◌, ◌*◌, ◌≤◌, ◌<◌, true, List, ◌++◌, map, length, count_by, slice_get, Option, Some, if◌then◌else◌}
use Rattle.slot_core.specs.declared.jobs.Job.{Job}
use Rattle.slot_core.specs.declared.tasks.Sporadic.{Sporadic}
use Rattle.slot_core.specs.declared.tasks.TaskSet.{TaskSet}
use Rattle.slot_core.specs.Offline.Keys.{is_offline}
use Rattle.slot_core.specs.Sets.Cycles.{cycle_of}
use Rattle.slot_core.specs.Offline.OfflineJobs.{offline_jobs}
use Rattle.slot_core.specs.Offline.Windows.{raw_release, raw_deadline, precedes}
use Rattle.slot_core.specs.Feasibility.Sporadics.{sporadic_demand, IsLegalPattern}
use Rattle.slot_core.specs.Runs.Demand.{work_by}
use Rattle.slot_core.specs.Claims.Futures.{pattern_jobs}
use Rattle.slot_core.specs.Claims.Schedules.{holds}

-- the job moved by c
abbrev pub moved : ℕ → Job → Job
moved c job = record job { est = job.est + c; dl = job.dl + c }

-- the raw window of a job after the change: of an offline job its own one moved by c, of another
-- one its window
abbrev pub moved_release : TaskSet → ℕ → Job → ℕ
moved_release set c job = if is_offline job.key then raw_release set job + c else job.est

abbrev pub moved_deadline : TaskSet → ℕ → Job → ℕ
moved_deadline set c job = if is_offline job.key then raw_deadline set job + c else job.dl

-- these slots, from time c on and up to `end`, are a schedule of the jobs
pub record IsScheduleFrom
    (set : TaskSet) (c : ℕ) (jobs : List Job) (end : ℕ) (slots : List (Option ℕ)) : Type 0 where
  -- one slot for each time
  pub whole : length slots ≡ end - c
  -- each slot is empty or holds a job of the list
  pub named : (u n : ℕ) → slice_get slots u ≡ Some (Some n) → n < length jobs
  -- each job that is due by the end has exactly its slots left
  pub served :
      (n : ℕ) (job : Job) → slice_get jobs n ≡ Some job
      → moved_deadline set c job ≤ end → count_by (holds n) slots ≡ job.left
  -- no job has a slot outside its raw window
  pub within :
      (u n : ℕ) (job : Job) → slice_get slots u ≡ Some (Some n) → slice_get jobs n ≡ Some job
      → (moved_release set c job ≤ c + u) × (c + u < moved_deadline set c job)
  -- each slot of a job lies after every slot of its predecessors
  pub ordered :
      (u v m n : ℕ) (before after : Job)
      → slice_get slots u ≡ Some (Some m) → slice_get slots v ≡ Some (Some n)
      → slice_get jobs m ≡ Some before → slice_get jobs n ≡ Some after
      → precedes set before.key after.key ≡ true → u < v

-- each sporadic task may first arrive at c
abbrev pub nexts_at : TaskSet → ℕ → List ℕ
nexts_at set c = map (λ (s : Sporadic). c) set.sporadics

-- the jobs after the change: the carried ones, and the offline jobs of so many cycles moved by c
abbrev pub jobs_from : TaskSet → ℕ → List Job → ℕ → List Job
jobs_from set c carried cycles =
    carried ++ map (moved c) (offline_jobs set (cycle_of set) cycles)

-- whatever legal pattern of arrivals comes from c on, they and its jobs have a slot schedule from c
-- up to the end of these cycles
abbrev pub CanChangeAt : TaskSet → ℕ → List Job → ℕ → ℕ → Type 0
CanChangeAt set c carried row cycles =
    (pattern : List (ℕ × ℕ)) → IsLegalPattern set.sporadics (nexts_at set c) c pattern
    → (slots : List (Option ℕ))
    × IsScheduleFrom
    set
    c
    (jobs_from set c carried cycles ++ pattern_jobs set.sporadics row pattern)
    (c + cycles * cycle_of set)
    slots

-- the work that is due from c on by time x
abbrev pub due_at : TaskSet → ℕ → List Job → ℕ → ℕ → ℕ
due_at set c carried cycles x =
    work_by (jobs_from set c carried cycles) x
    + sporadic_demand set.sporadics (nexts_at set c) c x

-- at no time up to the end of these cycles is it more than the slots from c on
abbrev pub FitsAt : TaskSet → ℕ → List Job → ℕ → Type 0
FitsAt set c carried cycles =
    (x : ℕ) → c < x → x ≤ c + cycles * cycle_of set → due_at set c carried cycles x ≤ x - c
