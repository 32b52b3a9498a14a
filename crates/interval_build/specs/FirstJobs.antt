-- The jobs of which a plan is made.
use Rattle.std.specs.Prelude.{◌≡◌, ℕ, true, List, IsPermutation}
use Rattle.slot_core.specs.declared.jobs.Job.{Job}
use Rattle.slot_core.specs.declared.tasks.TaskSet.{TaskSet}
use Rattle.slot_core.specs.Sets.Cycles.{cycle_of}
use Rattle.slot_core.specs.Sets.Ranges.{is_sound}
use Rattle.slot_core.specs.Offline.OfflineJobs.{cycle_jobs}
use Rattle.slot_core.specs.Keeping.Plans.{AreInDeadlineOrder}
use Rattle.slot_core.specs.Feasibility.Feasible.{IsFeasible}

-- the offline jobs of the first cycle of a sound and feasible set, in deadline order
pub record AreFirstJobs (set : TaskSet) (jobs : List Job) : Type 0 where
  pub sound : is_sound set ≡ true
  pub feasible : IsFeasible set (cycle_of set)
  pub listed : IsPermutation (cycle_jobs set (cycle_of set) 0) jobs
  pub ordered : AreInDeadlineOrder jobs

-- the cycle of some such set, and its jobs
pub record IsFirstCycle (cycle : ℕ) (jobs : List Job) : Type 0 where
  pub tasks : TaskSet
  pub whole : cycle ≡ cycle_of tasks
  pub listed : AreFirstJobs tasks jobs
