-- Slot schedules of lists of jobs: safe jobs have one, and one fits its work.
use Rattle.std.specs.Prelude.{◌≡◌, ℕ, ◌+◌, ◌-◌, ◌≤◌, ◌<◌, false, true, List, [], ◌++◌, Contains, Option, Some, slice_get}
use Rattle.slot_core.specs.declared.jobs.Key.{Key}
use Rattle.slot_core.specs.declared.jobs.Job.{Job}
use Rattle.slot_core.specs.declared.tasks.TaskSet.{TaskSet}
use Rattle.slot_core.specs.Offline.Keys.{is_offline}
use Rattle.slot_core.specs.Sets.Cycles.{cycle_of}
use Rattle.slot_core.specs.Sets.Ranges.{is_sound}
use Rattle.slot_core.specs.Offline.Windows.{raw_deadline, precedes}
use Rattle.slot_core.specs.Runs.Demand.{work_by}
use Rattle.slot_core.specs.Runs.Histories.{History, time_of, is_freed}
use Rattle.slot_core.specs.Runs.Scenes.{horizon, scene_of}
use Rattle.slot_core.specs.Runs.Traces.{IsLegal}
use Rattle.slot_core.specs.Claims.Safety.{IsSafe}
use Rattle.slot_core.specs.Claims.Schedules.{IsSchedule, HasSchedule}
use Rattle.slot_core.specs.Keeping.Kept.{ArePlanned, AreApart, SuccessorsWait, PredecessorsWait}

-- jobs of which no deadline up to `end` is at risk have a slot schedule up to there
abbrev pub SafeJobsHaveASchedule : Type 0
SafeJobsHaveASchedule =
    (set : TaskSet) (cycles : ℕ) (jobs : List Job) (t end : ℕ)
    → is_sound set ≡ true → ArePlanned set (cycle_of set) cycles jobs → AreApart jobs
    → ((job : Job) → Contains jobs job → 1 ≤ job.left)
    → t ≤ end → IsSafe [] [] jobs t end
    → HasSchedule set jobs t end

-- in a slot schedule of jobs whose successors wait, every slot of a job whose graph is due by the
-- end lies before its derived deadline
abbrev pub SlotsLieBeforeDerivedDeadlines : Type 0
SlotsLieBeforeDerivedDeadlines =
    (set : TaskSet) (cycles : ℕ) (jobs : List Job) (t end u n : ℕ) (slots : List (Option ℕ))
    (job : Job)
    → is_sound set ≡ true → ArePlanned set (cycle_of set) cycles jobs
    → SuccessorsWait set (cycle_of set) cycles jobs
    → IsSchedule set jobs t end slots
    → slice_get slots u ≡ Some (Some n) → slice_get jobs n ≡ Some job
    → (is_offline job.key ≡ true → raw_deadline set job ≤ end)
    → t + u < job.dl

-- where their predecessors wait, every slot of such a job lies at or after its derived start
abbrev pub SlotsLieAfterDerivedStarts : Type 0
SlotsLieAfterDerivedStarts =
    (set : TaskSet) (cycles : ℕ) (jobs : List Job) (t end u n : ℕ) (slots : List (Option ℕ))
    (job : Job)
    → is_sound set ≡ true → ArePlanned set (cycle_of set) cycles jobs
    → PredecessorsWait set (cycle_of set) cycles jobs
    → IsSchedule set jobs t end slots
    → slice_get slots u ≡ Some (Some n) → slice_get jobs n ≡ Some job
    → (is_offline job.key ≡ true → raw_deadline set job ≤ end)
    → job.est ≤ t + u

-- a path of direct predecessors leads from a job back to another
pub data ComesBefore (set : TaskSet) : Key → Key → Type 0 where
  directly : {first last : Key} → precedes set first last ≡ true → ComesBefore set first last
  further :
      {first next last : Key} → ComesBefore set first next → precedes set next last ≡ true
      → ComesBefore set first last

-- no job that comes before the job of this key was ended early
abbrev pub NoneBeforeEndedEarly : TaskSet → History → Key → Type 0
NoneBeforeEndedEarly set h key =
    (first : Key) → ComesBefore set first key → is_freed first h ≡ false

-- at a legal history, in a slot schedule of the remaining jobs and any jobs beside them, every slot
-- of a remaining job lies at or after its derived start, where none before it was ended early
abbrev pub SlotsLieAfterDerivedStartsAtLegalHistories : Type 0
SlotsLieAfterDerivedStartsAtLegalHistories =
    (set : TaskSet) (h : History) (beside : List Job) (u n : ℕ) (slots : List (Option ℕ))
    (job : Job)
    → is_sound set ≡ true → IsLegal set (cycle_of set) h
    → let jobs = (scene_of set (cycle_of set) h).jobs in
    IsSchedule set (jobs ++ beside) (time_of h) (horizon (cycle_of set) (time_of h)) slots
    → slice_get slots u ≡ Some (Some n) → slice_get jobs n ≡ Some job
    → NoneBeforeEndedEarly set h job.key
    → job.est ≤ time_of h + u

-- so a slot schedule fits its work: what is due by a time, of graphs due by the end, has its slots
-- before it
abbrev pub AScheduleFitsItsWork : Type 0
AScheduleFitsItsWork =
    (set : TaskSet) (cycles : ℕ) (jobs : List Job) (t end x : ℕ)
    → is_sound set ≡ true → ArePlanned set (cycle_of set) cycles jobs
    → SuccessorsWait set (cycle_of set) cycles jobs
    → ((job : Job) → Contains jobs job → job.dl ≤ x → raw_deadline set job ≤ end)
    → x ≤ end → HasSchedule set jobs t end
    → work_by jobs x ≤ x - t
