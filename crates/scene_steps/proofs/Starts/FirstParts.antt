-- The parts that an executive starts with make the scene before the first slot.
use Rattle.std.proofs.Common.{◌≡◌, [], map, sym, ap, ◌∙◌, subst}
use Rattle.slot_core.specs.declared.jobs.Span.{Span}
use Rattle.slot_core.specs.declared.tasks.Sporadic.{Sporadic}
use Rattle.slot_core.specs.Keeping.Executives.{Executive, StandsFor}
use Rattle.slot_core.specs.Runs.Matches.{HaveSameItems, IsSameScene}
use Rattle.slot_core.specs.Keeping.Plans.{PlanParts, IsPlan}
use Rattle.slot_core.specs.Runs.Scenes.{horizon, scene_of}
use Rattle.slot_core.specs.Runs.Spans.{spans_of}
use Rattle.slot_core.specs.Runs.Traces.{started}
use Rattle.interval_row.specs.Changes.{copies_of}
use Rattle.scene_steps.specs.Steps.{first_scene}
use Rattle.scene_steps.proofs.Rows.FirstSpans.{spans-first}
use Rattle.scene_steps.proofs.Same.FirstScene.{first_scene-empty, StandsFor-first}
use Rattle.scene_steps.proofs.Same.SameScenes.{same-trans}
use Rattle.scene_steps.proofs.Same.SameSpans.{spans_of-same}
use Rattle.scene_steps.proofs.Slots.NewParts.{ends-between}
use Rattle.scene_steps.proofs.Starts.FirstJobs.{first_cycles, first_cycles-same}

-- an executive before the first slot: the plan's jobs of three cycles, each sporadic task may come at once, no soft job,
-- and the spans end where three copies of the plan's spans do
pub record IsFirst (exec : Executive) : Type 0 where
  pub time : exec.scene.time ≡ 0
  pub jobs : HaveSameItems exec.scene.jobs (first_cycles exec.plan 3)
  pub nexts : exec.scene.nexts ≡ map (λ (s : Sporadic). 0) exec.plan.tasks.sporadics
  pub soft : exec.scene.soft ≡ []
  pub points : exec.scene.points ≡ map (λ (s : Span). s.end) (copies_of exec.plan.spans 3)
  pub last : exec.last_row ≡ 0

-- the first scene is that of the empty history, by the plan's cycle
first_scene-plan : (plan : PlanParts) → IsPlan plan → IsSameScene (first_scene plan.tasks plan.cycle) (scene_of plan.tasks plan.cycle [])
first_scene-plan plan is_plan =
    subst
    (λ c. IsSameScene (first_scene plan.tasks c) (scene_of plan.tasks c []))
    (sym is_plan.cycle)
    (first_scene-empty plan.tasks is_plan.sound)

-- so its scene is the first one
first_scene-same : (exec : Executive) → IsPlan exec.plan → IsFirst exec → IsSameScene exec.scene (first_scene exec.plan.tasks exec.plan.cycle)
first_scene-same exec plan first =
    let set = exec.plan.tasks in
    let cycle = exec.plan.cycle in
    let empty = scene_of set cycle [] in
    let ends = ap (map (λ (s : Span). s.end)) (spans-first exec.plan plan) ∙ ends-between empty.jobs (horizon cycle 0) 0 empty.points in
    record {
      time = first.time;
      jobs =
          same-trans exec.scene.jobs (first_cycles exec.plan 3) (first_scene set cycle).jobs first.jobs (first_cycles-same exec.plan 3 plan);
      nexts = first.nexts;
      soft = first.soft;
      points = first.points ∙ (ends ∙ sym (first_scene-plan exec.plan plan).points);
    }

-- it stands for the empty history, and for that of the start entry
pub StandsFor-start : (exec : Executive) → IsPlan exec.plan → IsFirst exec → StandsFor exec [] × StandsFor exec started
StandsFor-start exec plan first =
    StandsFor-first exec plan (first_scene-same exec plan first) first.last

-- and its spans are three copies of the plan's
pub spans-start : (exec : Executive) → IsPlan exec.plan → IsFirst exec → copies_of exec.plan.spans 3 ≡ spans_of exec.plan.cycle exec.scene
spans-start exec plan first =
    spans-first exec.plan plan ∙ sym (spans_of-same exec.plan.cycle exec.scene (scene_of exec.plan.tasks exec.plan.cycle []) (StandsFor-start exec plan first).0.same)
