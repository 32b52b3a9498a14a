-- When a scene stands for a history.
use Rattle.std.specs.Prelude.{◌≡◌, ℕ, List, sum_by}
use Rattle.slot_core.specs.declared.tasks.TaskSet.{TaskSet}
use Rattle.slot_core.specs.Runs.Histories.{History, last_row}
use Rattle.slot_core.specs.Runs.Scenes.{Scene, scene_of}
use Rattle.slot_core.specs.Runs.Traces.{IsLegal}

-- the same items in any order: every sum over the one list is that over the other. Demand, spans
-- and answers ask only for sums of a list of jobs, so this is said in place of a permutation; of
-- numbers and of jobs it is one, as the lemmas on the same items show
abbrev pub HaveSameItems : {X : Type 0} → List X → List X → Type 0
HaveSameItems {X} xs ys = (f : X → ℕ) → sum_by f xs ≡ sum_by f ys

-- the same scene, up to the order in which its jobs are listed; the points rise, so they are equal
-- lists
pub record IsSameScene (a b : Scene) : Type 0 where
  pub time : a.time ≡ b.time
  pub jobs : HaveSameItems a.jobs b.jobs
  pub nexts : a.nexts ≡ b.nexts
  pub soft : a.soft ≡ b.soft
  pub points : a.points ≡ b.points

-- a scene and a last row match a legal history: its scene is that one, and its last arrival has
-- that row
pub record MatchesHistory
    (set : TaskSet) (cycle : ℕ) (scene : Scene) (row : ℕ) (h : History) : Type 0 where
  pub legal : IsLegal set cycle h
  pub same : IsSameScene scene (scene_of set cycle h)
  pub last : row ≡ last_row h
