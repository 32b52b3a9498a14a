-- The jobs of a trace.
use Rattle.std.specs.Prelude.{ℕ, ◌+◌, ◌/◌, List, ◌++◌, map, filter, flat_map, nat_lt, Option, Some, None}
use Rattle.std.specs.List.{filter_map, range_with_len}
use Rattle.slot_core.specs.declared.jobs.Job.{Job}
use Rattle.slot_core.specs.declared.tasks.TaskSet.{TaskSet}
use Rattle.slot_core.specs.Keeping.Plans.{PlanParts}
use Rattle.slot_core.specs.Offline.OfflineJobs.{later_job}
use Rattle.slot_core.specs.Offline.Windows.{raw_deadline, raw_release}
use Rattle.view_jobs.specs.declared.deeds.Deed.{Deed}
use Rattle.view_jobs.specs.declared.deeds.Does.{Does}
use Rattle.view_jobs.specs.declared.deeds.Does.TheVariants.{Brings}
use Rattle.view_jobs.specs.declared.jobs.Listed.{Listed}

-- an offline job with its raw window
abbrev pub listed_of : TaskSet → Job → Listed
listed_of set job =
    record {
      key = job.key;
      release = raw_release set job;
      start = job.est;
      deadline = Some (raw_deadline set job);
      declared = job.declared;
    }

-- a job of the first cycle, so many cycles later
abbrev pub listed_in : PlanParts → ℕ → Job → Listed
listed_in plan n job = listed_of plan.tasks (later_job plan.tasks plan.cycle n job)

-- the jobs of cycle n that are released before this time
abbrev pub cycle_listed : PlanParts → ℕ → ℕ → List Listed
cycle_listed plan slots n =
    filter (λ (l : Listed). nat_lt l.release slots) (map (listed_in plan n) plan.jobs)

-- the offline jobs that are released before this time, cycle by cycle
abbrev pub offline_listed : PlanParts → ℕ → List Listed
offline_listed plan slots =
    flat_map (cycle_listed plan slots) (range_with_len 0 (slots / plan.cycle + 1))

-- the job that a deed brings, with the time of its arrival
abbrev pub brought_at : ℕ → Does → Option Listed
brought_at time (Brings job) =
    Some (record {
      key = job.key;
      release = time;
      start = time;
      deadline = job.deadline;
      declared = job.declared;
    })
brought_at time _ = None

-- the jobs that deeds bring
abbrev pub arrived_listed : List Deed → List Listed
arrived_listed deeds = filter_map (λ (d : Deed). brought_at d.time d.does) deeds

-- the jobs of a trace of so many slots
abbrev pub listed_jobs : PlanParts → ℕ → List Deed → List Listed
listed_jobs plan slots deeds = offline_listed plan slots ++ arrived_listed deeds
