-- What an executive's scene is like.
use Rattle.std.specs.Prelude.{◌≡◌, ℕ, ◌-◌, ◌≤◌, length, sum_by, All, Contains}
use Rattle.slot_core.specs.declared.jobs.Job.{Job}
use Rattle.slot_core.specs.Runs.Rising.{AreRising, last_point}
use Rattle.slot_core.specs.Runs.Scenes.{Scene, horizon}

-- what an executive's scene is like, beside what it keeps
pub record IsProperScene (cycle : ℕ) (scene : Scene) : Type 0 where
  -- the points rise from the time to the horizon
  pub rising : AreRising scene.time scene.points
  pub last : last_point scene.time scene.points ≡ horizon cycle scene.time
  -- each job is due at one of them
  pub due : All (λ (j : Job). Contains scene.points j.dl) scene.jobs
  -- there are at most as many points and jobs as slots up to the horizon, and all that is left fits
  -- them
  pub few_points : length scene.points ≤ horizon cycle scene.time - scene.time
  pub few_jobs : length scene.jobs ≤ horizon cycle scene.time - scene.time
  pub left : sum_by (λ (j : Job). j.left) scene.jobs ≤ horizon cycle scene.time - scene.time
