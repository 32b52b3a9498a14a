-- An executive as contracts see it, and what an event of it has to do.
use Rattle.std.specs.Prelude.{◌≡◌, ℕ, ◌+◌, ◌/◌, ◌∷◌}
use Rattle.slot_core.specs.declared.events.What.{What}
use Rattle.slot_core.specs.Runs.ShownSpans.{ShownSpans}
use Rattle.slot_core.specs.Keeping.Plans.{PlanParts, IsPlan}
use Rattle.slot_core.specs.Runs.Histories.{History}
use Rattle.slot_core.specs.Runs.Scenes.{Scene, scene_of}
use Rattle.slot_core.specs.Runs.Spans.{shown_of}
use Rattle.slot_core.specs.Runs.Traces.{Occurrence, told_of}
use Rattle.slot_core.specs.Runs.Matches.{MatchesHistory}
use Rattle.slot_core.specs.Keeping.Kept.{KeepsBounds, KeepsSoftOrder, KeepsRows}

-- the plan, the scene, and the row of the last arrival
pub record Executive : Type 0 where
  pub plan : PlanParts
  pub scene : Scene
  pub last_row : ℕ

-- the executive stands for this legal history
abbrev pub StandsFor : Executive → History → Type 0
StandsFor exec h = MatchesHistory exec.plan.tasks exec.plan.cycle exec.scene exec.last_row h

-- some legal history exists that the executive stands for
abbrev pub StandsForSome : Executive → Type 0
StandsForSome exec = (h : History) × StandsFor exec h

-- the event does what the model does: `what` is told of it, at each history for which the executive
-- stood
pub record Does (before after : Executive) (next : Occurrence) (what : What) : Type 0 where
  -- there is such a history
  pub some : StandsForSome before
  -- it is what the definitions tell at that history
  pub told :
      (h : History) → StandsFor before h
      → what ≡ told_of before.plan.tasks before.plan.cycle h next
  -- and afterwards the executive stands for the history with it
  pub stands : (h : History) → StandsFor before h → StandsFor after (what ∷ h)
  -- the plan stays
  pub plan : after.plan ≡ before.plan

-- the spans are those that are shown at each history for which the executive stands
abbrev pub Shows : Executive → ShownSpans → Type 0
Shows exec shown =
    StandsForSome exec
    × ((h : History) → StandsFor exec h
    → shown ≡ shown_of exec.plan.cycle (scene_of exec.plan.tasks exec.plan.cycle h))

-- what an executive keeps, with the offline jobs up to its horizon; that its spans are those of the
-- scene is kept by the type that has them
pub record IsKept (exec : Executive) : Type 0 where
  pub plan : IsPlan exec.plan
  pub bounds :
      KeepsBounds exec.plan.tasks exec.plan.cycle (exec.scene.time / exec.plan.cycle + 3) exec.scene
  pub soft : KeepsSoftOrder exec.plan.tasks.soft_limit exec.scene.soft
  pub rows : KeepsRows exec.last_row exec.scene
