-- The jobs after a change of plan. Their times are counted from the change on: time 0 is its first
-- slot.
use Rattle.std.specs.Prelude.{◌≡◌, ℕ, ◌+◌, ◌-◌, ◌*◌, ◌/◌, ◌≤◌, ◌<◌, false, not, List, ◌++◌, map, filter, fold, max, Contains}
use Rattle.slot_core.specs.declared.jobs.Job.{Job}
use Rattle.slot_core.specs.declared.tasks.TaskSet.{TaskSet}
use Rattle.slot_core.specs.Offline.Keys.{is_offline, is_soft, row_of}
use Rattle.slot_core.specs.Sets.Cycles.{cycle_of}
use Rattle.slot_core.specs.Offline.OfflineJobs.{offline_jobs}
use Rattle.slot_core.specs.Keeping.Kept.{AreApart}

-- of the jobs that remain, those that are carried over: the firm and the sporadic ones
abbrev pub carried_of : List Job → List Job
carried_of jobs = filter (λ (j : Job). not (is_offline j.key)) jobs

-- the job with its times counted from time c on; the slots that it has left are all that it has yet
-- to run
abbrev pub since : ℕ → Job → Job
since c job = record job { est = job.est - c; dl = job.dl - c; declared = job.left }

-- the number of cycles that are looked at: at least 3, so many that each carried deadline lies in
-- those before the last
abbrev pub cycles_of_change : ℕ → ℕ → List Job → ℕ
cycles_of_change cycle c carried =
    fold max 3 (map (λ (j : Job). (j.dl - c + (cycle - 1)) / cycle + 1) carried)

-- the jobs after a change at time c: those carried over, and the offline jobs of so many cycles of
-- the second set
abbrev pub jobs_after : TaskSet → ℕ → List Job → ℕ → List Job
jobs_after set c carried cycles =
    map (since c) carried ++ offline_jobs set (cycle_of set) cycles

-- jobs that may be carried over at time c: firm and sporadic ones that have come and are due later,
-- each with a slot left, in no row above this one, and each key once
pub record AreCarried (c row : ℕ) (jobs : List Job) : Type 0 where
  pub other : (job : Job) → Contains jobs job → is_offline job.key ≡ false
  pub hard : (job : Job) → Contains jobs job → is_soft job.key ≡ false
  pub come : (job : Job) → Contains jobs job → job.est ≤ c
  pub due_later : (job : Job) → Contains jobs job → c < job.dl
  pub some : (job : Job) → Contains jobs job → 1 ≤ job.left
  pub rows : (job : Job) → Contains jobs job → row_of job.key ≤ row
  pub apart : AreApart jobs

-- this number of cycles is at least 3, each carried deadline lies in those before the last, and no
-- lesser number is so
pub record IsLeastCycles (cycle c : ℕ) (carried : List Job) (cycles : ℕ) : Type 0 where
  pub three : 3 ≤ cycles
  pub reach : (job : Job) → Contains carried job → job.dl ≤ c + (cycles - 1) * cycle
  pub least :
      (other : ℕ) → 3 ≤ other
      → ((job : Job) → Contains carried job → job.dl ≤ c + (other - 1) * cycle)
      → cycles ≤ other
