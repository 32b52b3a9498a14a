-- A scene: all that the choices, answers and spans at a history depend on.
use Rattle.std.specs.Prelude.{ℕ, ◌+◌, ◌-◌, ◌*◌, ◌/◌, Bool, not, List, ◌++◌, map, filter, nat_lt}
use Rattle.std.specs.List.{enumerate_from, range_with_len}
use Rattle.slot_core.specs.declared.jobs.Key.TheVariants.{Soft}
use Rattle.slot_core.specs.declared.jobs.Job.{Job}
use Rattle.slot_core.specs.declared.jobs.SoftJob.{SoftJob}
use Rattle.slot_core.specs.declared.tasks.Sporadic.{Sporadic}
use Rattle.slot_core.specs.declared.tasks.TaskSet.{TaskSet}
use Rattle.slot_core.specs.Offline.OfflineJobs.{cycle_jobs, offline_jobs}
use Rattle.slot_core.specs.Runs.Histories.{History, time_of, executed, is_over, firm_jobs, sporadic_jobs, soft_jobs, next_arrival}
use Rattle.slot_core.specs.Runs.Points.{plan_points, is_point}

-- the time, the remaining jobs, the next legal arrival of each sporadic task, the soft jobs that
-- have not ended, and the points at which spans end
pub record Scene : Type 0 where
  pub time : ℕ
  pub jobs : List Job
  pub nexts : List ℕ
  pub soft : List SoftJob
  pub points : List ℕ

-- the end of the third cycle from time t on
abbrev pub horizon : ℕ → ℕ → ℕ
horizon cycle t = (t / cycle + 3) * cycle

-- the guaranteed jobs of a history: the offline jobs of so many cycles, firm jobs that were
-- accepted, sporadic jobs that were taken
abbrev pub guaranteed_in : TaskSet → ℕ → ℕ → History → List Job
guaranteed_in set cycle cycles h =
    offline_jobs set cycle cycles ++ firm_jobs h ++ sporadic_jobs set.sporadics h

-- those with the offline jobs due by the horizon
abbrev pub guaranteed : TaskSet → ℕ → History → List Job
guaranteed set cycle h = guaranteed_in set cycle (time_of h / cycle + 3) h

-- the job has run its declared slots, or was ended before
abbrev pub has_ended : History → Job → Bool
has_ended h job = is_over h job.key job.declared

-- the job has run a slot
abbrev pub has_started : History → Job → Bool
has_started h job = nat_lt 0 (executed job.key h)

-- the job with the slots that it has still to run
abbrev pub with_left : History → Job → Job
with_left h job = record job { left = job.declared - executed job.key h }

-- the jobs that have not ended, with their slots left
abbrev pub unended : History → List Job → List Job
unended h jobs = map (with_left h) (filter (λ job. not (has_ended h job)) jobs)

-- the remaining jobs: the guaranteed jobs that have not ended
abbrev pub remaining : TaskSet → ℕ → History → List Job
remaining set cycle h = unended h (guaranteed set cycle h)

-- the soft job has ended
abbrev pub soft_has_ended : History → SoftJob → Bool
soft_has_ended h job = is_over h (Soft job.row) job.declared

-- the soft job with the slots that it has still to run
abbrev pub soft_with_left : History → SoftJob → SoftJob
soft_with_left h job = record job { left = job.declared - executed (Soft job.row) h }

-- the soft jobs that have not ended, with their slots left, oldest first
abbrev pub waiting_soft : History → List SoftJob
waiting_soft h = map (soft_with_left h) (filter (λ job. not (soft_has_ended h job)) (soft_jobs h))

-- the next legal arrival of each sporadic task
abbrev pub next_arrivals : List Sporadic → History → List ℕ
next_arrivals sporadics h =
    map (λ (s : ℕ × Sporadic). next_arrival s.0 s.1.separation h) (enumerate_from 0 sporadics)

-- the points after time t, at which spans end: the plan's points in each cycle, and the deadlines
-- of firm and sporadic jobs, ended or not
abbrev pub points_of : TaskSet → ℕ → History → List ℕ
points_of set cycle h =
    let own = map (λ (j : Job). j.dl) (firm_jobs h ++ sporadic_jobs set.sporadics h) in
    let planned = plan_points cycle (cycle_jobs set cycle 0) in
    filter
    (is_point cycle planned own)
    (range_with_len (time_of h + 1) (horizon cycle (time_of h) - time_of h))

-- the scene of a history
abbrev pub scene_of : TaskSet → ℕ → History → Scene
scene_of set cycle h = record {
  time = time_of h;
  jobs = remaining set cycle h;
  nexts = next_arrivals set.sporadics h;
  soft = waiting_soft h;
  points = points_of set cycle h;
}

-- the same scene with the offline jobs of so many cycles in it
abbrev pub scene_in : TaskSet → ℕ → ℕ → History → Scene
scene_in set cycle cycles h =
    record (scene_of set cycle h) { jobs = unended h (guaranteed_in set cycle cycles h) }
