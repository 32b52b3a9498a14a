-- What contracts see of a checker.
use Rattle.std.specs.Prelude.{◌≡◌, ℕ, ◌<◌, ◌≤◌, true, ◌⊎◌, ◌^◌, List, length, sum_by, All, Contains}
use Rattle.slot_core.specs.declared.jobs.Job.{Job}
use Rattle.slot_core.specs.declared.tasks.Sporadic.{Sporadic}
use Rattle.slot_core.specs.declared.tasks.TaskSet.{TaskSet}
use Rattle.slot_core.specs.Keeping.Kept.{AreApart}
use Rattle.slot_core.specs.Offline.Windows.{precedes}
use Rattle.slot_core.specs.Runs.Rising.{AreRising, last_point}
use Rattle.slot_core.specs.Runs.Scenes.{Scene, horizon}

-- the scene, and the sporadic tasks without their names
pub record Checked : Type 0 where
  pub scene : Scene
  pub sporadics : List Sporadic

-- each direct predecessor of one of the jobs is due before it
abbrev pub AreDueInOrder : TaskSet → List Job → Type 0
AreDueInOrder set jobs =
    (before job : Job) → Contains jobs before → Contains jobs job
    → precedes set before.key job.key ≡ true → before.dl < job.dl

-- what a scene is like after any lines that may be told, with the offline jobs of a plan
pub record IsChecked (set : TaskSet) (cycle : ℕ) (scene : Scene) : Type 0 where
  -- few slots have passed
  pub early : scene.time ≤ 2 ^ 32
  -- each key stands at most once, each job has a slot left, and in sum there are not too many
  pub apart : AreApart scene.jobs
  pub some : All (λ (j : Job). 1 ≤ j.left) scene.jobs
  pub small : sum_by (λ (j : Job). j.left) scene.jobs ≤ 2 ^ 36
  -- each job is due by the horizon, and at a point where that is to come
  pub near : All (λ (j : Job). j.dl ≤ horizon cycle scene.time) scene.jobs
  pub due :
      All (λ (j : Job). (j.dl ≤ scene.time) ⊎ Contains scene.points j.dl) scene.jobs
  -- a predecessor is due before its successor
  pub in_order : AreDueInOrder set scene.jobs
  -- the points rise from the time to the horizon
  pub rising : AreRising scene.time scene.points
  pub last : last_point scene.time scene.points ≡ horizon cycle scene.time
  -- there is one next legal arrival for each sporadic task
  pub one_each : length scene.nexts ≡ length set.sporadics
