-- Precedence in the derived windows.
use Rattle.std.specs.Prelude.{◌≡◌, ◌<◌, true, List, Contains}
use Rattle.slot_core.specs.declared.jobs.Job.{Job}
use Rattle.slot_core.specs.declared.tasks.TaskSet.{TaskSet}
use Rattle.slot_core.specs.Offline.Windows.{precedes}

-- of a job and its direct predecessor, the predecessor starts earlier, and is due earlier unless
-- the job's own deadline is cut to 0
pub record KeepsPrecedence (set : TaskSet) (jobs : List Job) : Type 0 where
  pub starts :
      (before after : Job) → Contains jobs before → Contains jobs after
      → precedes set before.key after.key ≡ true → before.est < after.est
  pub due :
      (before after : Job) → Contains jobs before → Contains jobs after
      → precedes set before.key after.key ≡ true → 0 < after.dl → before.dl < after.dl
