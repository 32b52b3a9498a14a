-- What a history owes to its jobs.
use Rattle.std.specs.Prelude.{◌≡◌, ℕ, ◌+◌, ◌≤◌, ◌<◌, ◌⊎◌, false, true, List, ◌++◌, map, Contains, Some}
use Rattle.slot_core.specs.declared.jobs.Key.{Key}
use Rattle.slot_core.specs.declared.jobs.Key.TheVariants.{Soft as SoftKey}
use Rattle.slot_core.specs.declared.jobs.Job.{Job}
use Rattle.slot_core.specs.declared.jobs.SoftJob.{SoftJob}
use Rattle.slot_core.specs.declared.tasks.TaskSet.{TaskSet}
use Rattle.slot_core.specs.declared.events.What.{What}
use Rattle.slot_core.specs.declared.events.What.TheVariants.{Run}
use Rattle.slot_core.specs.Runs.Histories.{History, Follows, time_of, executed, freed_by, is_over, soft_jobs}
use Rattle.slot_core.specs.Runs.Scenes.{guaranteed, has_ended}
use Rattle.slot_core.specs.Offline.Windows.{raw_release, raw_deadline, precedes}

-- all jobs of a history, guaranteed and soft, each as its key and its declared slots
abbrev pub all_jobs : TaskSet → ℕ → History → List (Key × ℕ)
all_jobs set cycle h =
    map (λ (j : Job). (j.key, j.declared)) (guaranteed set cycle h)
    ++ map (λ (s : SoftJob). (SoftKey s.row, s.declared)) (soft_jobs h)

-- at this time the job is inside its derived window, which lies in its raw one
abbrev pub IsInside : TaskSet → ℕ → Job → Type 0
IsInside set u job =
    (raw_release set job ≤ job.est)
    × (job.est ≤ u)
    × (u < job.dl)
    × (job.dl ≤ raw_deadline set job)

-- what an entry tells is a run of the job of this key, or its end before it has run all its slots
abbrev pub Concerns : What → Key → Type 0
Concerns what key = (what ≡ Run key) ⊎ ((n : ℕ) × (freed_by what ≡ Some (key, n)))

-- served: every guaranteed job runs inside its window, and has ended by its deadline once the
-- history reaches that; no job, guaranteed or soft, runs after its end or more than it declared
pub record IsServed (set : TaskSet) (cycle : ℕ) (h : History) : Type 0 where
  -- every run of a guaranteed job lies inside its derived window, which lies in its raw one
  pub inside :
      (job : Job) (earlier : History) → Contains (guaranteed set cycle h) job
      → Follows h (Run job.key) earlier → IsInside set (time_of earlier) job
  -- every guaranteed job has ended by its deadline: in each earlier history that has reached it
  pub in_time :
      (job : Job) (later earlier : History) → Contains (guaranteed set cycle h) job
      → h ≡ later ++ earlier → job.dl ≤ time_of earlier → has_ended earlier job ≡ true
  -- every run, early end and withdrawal is of a job that the history before it has
  pub known :
      (what : What) (key : Key) (earlier : History) → Follows h what earlier → Concerns what key
      → (declared : ℕ) × Contains (all_jobs set cycle earlier) (key, declared)
  -- no job runs after it has ended
  pub not_after_end :
      (key : Key) (declared : ℕ) (earlier : History)
      → Contains (all_jobs set cycle h) (key, declared)
      → Follows h (Run key) earlier → is_over earlier key declared ≡ false
  -- no job runs more than its declared slots
  pub at_most_declared :
      (key : Key) (declared : ℕ) → Contains (all_jobs set cycle h) (key, declared)
      → executed key h ≤ declared
  -- an early end or a withdrawal frees at least one slot, and all that its job does not run
  pub freed :
      (what : What) (key : Key) (declared n : ℕ) (earlier : History)
      → Contains (all_jobs set cycle h) (key, declared)
      → Follows h what earlier → freed_by what ≡ Some (key, n)
      → (1 ≤ n) × (executed key h + n ≡ declared)

-- ordered: every run of a job lies after the end of each of its predecessors
abbrev pub IsOrdered : TaskSet → ℕ → History → Type 0
IsOrdered set cycle h =
    (before after : Job) (earlier : History)
    → Contains (guaranteed set cycle h) before → Contains (guaranteed set cycle h) after
    → precedes set before.key after.key ≡ true
    → Follows h (Run after.key) earlier → has_ended earlier before ≡ true
