-- A list of jobs with places.
use Rattle.std.specs.Prelude.{ℕ, List}
use Rattle.slot_core.specs.declared.jobs.Job.{Job}

-- the jobs, and for how many there are places
pub record ListedJobs : Type 0 where
  pub items : List Job
  pub places : ℕ
