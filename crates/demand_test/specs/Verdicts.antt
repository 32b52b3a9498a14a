-- The outcome of the cycle test, and what it means over slot schedules.
use Rattle.std.specs.Prelude.{◌≡◌, ℕ, true, List, Option, Some, None, IsPermutation}
use Rattle.slot_core.specs.declared.jobs.Job.{Job}
use Rattle.slot_core.specs.declared.jobs.Window.{Window}
use Rattle.slot_core.specs.declared.tasks.Sporadic.{Sporadic}
use Rattle.slot_core.specs.declared.tasks.TaskSet.{TaskSet}
use Rattle.slot_core.specs.Sets.Cycles.{cycle_of}
use Rattle.slot_core.specs.Claims.Futures.{CyclesCanBeServed, DensestLeavesNone}
use Rattle.slot_core.specs.Offline.OfflineJobs.{cycle_jobs}
use Rattle.slot_core.specs.Sets.Ranges.{is_sound}
use Rattle.demand_test.specs.declared.Verdict.{Verdict}
use Rattle.demand_test.specs.declared.Verdict.TheVariants.{Fits, Fails}

-- fits where there is no counterexample
abbrev pub verdict_of : Option Window → Verdict
verdict_of None = Fits
verdict_of (Some window) = Fails window

-- the jobs of the first cycle, the sporadic tasks and the cycle are those of this sound set
pub record AreOfSet (set : TaskSet) (jobs : List Job) (sporadics : List Sporadic) (cycle : ℕ)
    : Type 0 where
  pub sound : is_sound set ≡ true
  pub whole : cycle ≡ cycle_of set
  pub arriving : sporadics ≡ set.sporadics
  pub listed : IsPermutation (cycle_jobs set cycle 0) jobs

-- what the verdict on a set says of slot schedules, whatever the scheduler
pub record MeansSchedules (set : TaskSet) (verdict : Verdict) : Type 0 where
  -- a set that fits: any number of its cycles can be served, whatever legal arrivals come
  pub fits : verdict ≡ Fits → (cycles : ℕ) → CyclesCanBeServed set cycles
  -- a set that fails: three of its cycles cannot
  pub fails : (window : Window) → verdict ≡ Fails window → ¬ (CyclesCanBeServed set 3)
  -- and the arrivals that show it are the densest from the start of the failing window on
  pub shown : (window : Window) → verdict ≡ Fails window → DensestLeavesNone set window.from
