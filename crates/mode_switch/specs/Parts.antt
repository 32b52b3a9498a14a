-- A change of plan as contracts see it.
use Rattle.std.specs.Prelude.{ℕ, ◌+◌, List}
use Rattle.slot_core.specs.declared.jobs.Job.{Job}
use Rattle.slot_core.specs.Keeping.Plans.{PlanParts}

-- the second plan, the time of the change, the jobs carried over with their slots left then, and
-- the slots that have passed since
pub record ChangeParts : Type 0 where
  pub plan : PlanParts
  pub at : ℕ
  pub carried : List Job
  pub passed : ℕ

-- its time
abbrev pub time_of_change : ChangeParts → ℕ
time_of_change change = change.at + change.passed
