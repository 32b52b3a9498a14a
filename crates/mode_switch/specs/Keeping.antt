-- What a change of plan keeps of its jobs: those carried over, of which the first ones have ended,
-- and those of the second set.
use Rattle.std.specs.Prelude.{◌≡◌, ℕ, ◌+◌, ◌-◌, ◌/◌, ◌≤◌, ◌^◌, List, [], ◌∷◌, count_by, drop, length, map, nat_lt, ⊤, if◌then◌else◌}
use Rattle.slot_core.specs.declared.jobs.Job.{Job}
use Rattle.slot_core.specs.declared.tasks.TaskSet.{TaskSet}
use Rattle.slot_core.specs.Claims.Safety.{after_run}
use Rattle.slot_core.specs.Offline.Keys.{same_key}
use Rattle.slot_core.specs.Sets.Cycles.{cycle_of}
use Rattle.slot_core.specs.Offline.OfflineJobs.{offline_jobs}
use Rattle.slot_core.specs.Runs.Choice.{ready}
use Rattle.slot_core.specs.Runs.Histories.{History, time_of}
use Rattle.slot_core.specs.Runs.Matches.{HaveSameItems}
use Rattle.slot_core.specs.Runs.Scenes.{unended}
use Rattle.slot_core.specs.Keeping.Executives.{Executive}
use Rattle.slot_core.specs.Keeping.Plans.{AreInDeadlineOrder, IsPlan, PlanParts, in_deadline_order}
use Rattle.job_queue.specs.Queues.{QueueParts}
use Rattle.change_laws.specs.Carried.{AreCarried, carried_of, jobs_after, since}
use Rattle.change_laws.specs.Grants.{CanChange}
use Rattle.mode_switch.specs.Parts.{ChangeParts, time_of_change}
use Rattle.mode_switch.specs.Runs.{after_change}
use Rattle.mode_switch.specs.declared.turns.Turn.{Turn}
use Rattle.mode_switch.specs.declared.turns.Turn.TheVariants.{Idle, Old, New}

-- the jobs that are carried over from these, in deadline order
abbrev pub carried_from : List Job → List Job
carried_from jobs = in_deadline_order (carried_of jobs)

-- the change from an executive to this plan, before its first slot
abbrev pub change_from : Executive → PlanParts → ChangeParts
change_from exec plan = record {
  plan = plan;
  at = exec.scene.time;
  carried = carried_from exec.scene.jobs;
  passed = 0;
}

-- no job is ready in the slot after this history: of the carried ones, and of those of the cycles
-- begun by now
abbrev pub NoneIsReady : TaskSet → ℕ → List Job → History → Type 0
NoneIsReady set c carried h =
    let t = time_of h in
    ready t (unended h (jobs_after set c carried (t / cycle_of set + 1))) ≡ []

-- the first of these jobs has run so many slots more
abbrev pub with_run : ℕ → List Job → List Job
with_run ran [] = []
with_run ran (job ∷ jobs) = record job { left = job.left - ran } ∷ jobs

-- the carried jobs that remain, where so many of the first have ended and the next one has run so
-- many slots
abbrev pub carried_left : ℕ → List Job → ℕ → ℕ → List Job
carried_left c carried ended ran = with_run ran (drop ended (map (since c) carried))

-- the first of these jobs has run a slot; it goes where that was its last one
abbrev pub front_run : List Job → List Job
front_run [] = []
front_run (job ∷ jobs) =
    if nat_lt 1 job.left then record job { left = job.left - 1 } ∷ jobs else jobs

-- the carried jobs that remain after a turn: where one of them ran, it was the first
abbrev pub carried_after : Turn → List Job → List Job
carried_after (Old key) jobs = front_run jobs
carried_after _ jobs = jobs

-- the jobs of the second set that remain after it
abbrev pub own_after : Turn → List Job → List Job
own_after (New key) jobs = after_run key jobs
own_after _ jobs = jobs

-- the job of a turn is there: a carried job remains, or there is a job of its key
abbrev pub HasItsJob : Turn → List Job → List Job → Type 0
HasItsJob Idle carried own = ⊤
HasItsJob (Old key) carried own = 1 ≤ length carried
HasItsJob (New key) carried own = 1 ≤ count_by (λ (j : Job). same_key j.key key) own

-- the history of a change
abbrev pub history_of_change : ChangeParts → History
history_of_change change = after_change change.plan.tasks change.at change.carried change.passed

-- the jobs of the second set in the cycles begun by now that have not ended
abbrev pub own_left : ChangeParts → List Job
own_left change =
    let cycle = cycle_of change.plan.tasks in
    unended
    (history_of_change change)
    (offline_jobs change.plan.tasks cycle (change.passed / cycle + 1))

-- what every change keeps: its plan is one, the carried jobs may be carried over and stand in
-- deadline order, and it can be served; so many of them have ended, and the queue holds the jobs of
-- the second set in the cycles begun by now, with a place for each slot of a cycle
pub record KeepsChange (change : ChangeParts) (ended ran : ℕ) (queue : QueueParts) : Type 0 where
  pub plan : IsPlan change.plan
  pub row : ℕ
  pub carried : AreCarried change.at row change.carried
  pub ordered : AreInDeadlineOrder change.carried
  pub served : CanChange change.plan.tasks change.at change.carried (row + 1)
  pub early : time_of_change change ≤ 2 ^ 32
  pub left :
      unended (history_of_change change) (map (since change.at) change.carried)
      ≡ carried_left change.at change.carried ended ran
  pub own : HaveSameItems queue.jobs (own_left change)
  pub room : queue.capacity ≡ change.plan.cycle
