-- An event that is answered in its scene, and changes the scene by the step, does what the model does.
use Rattle.std.proofs.Common.{◌≡◌, ℕ, true, ◌∷◌, sym, ap, ◌∙◌, subst}
use Rattle.slot_core.specs.declared.tasks.TaskSet.{TaskSet}
use Rattle.slot_core.specs.declared.events.What.{What}
use Rattle.slot_core.specs.Sets.Cycles.{cycle_of}
use Rattle.slot_core.specs.Keeping.Executives.{Executive, StandsFor, StandsForSome, Does, Shows}
use Rattle.slot_core.specs.Feasibility.Feasible.{IsFeasible}
use Rattle.slot_core.specs.Runs.Arrivals.{MayHaveRow}
use Rattle.slot_core.specs.Runs.Histories.{History, last_row}
use Rattle.slot_core.specs.Runs.Matches.{IsSameScene, MatchesHistory}
use Rattle.slot_core.specs.Keeping.Plans.{PlanParts, IsPlan}
use Rattle.slot_core.specs.Sets.Ranges.{is_sound}
use Rattle.slot_core.specs.Runs.Scenes.{Scene, scene_of}
use Rattle.slot_core.specs.Runs.Spans.{shown_of}
use Rattle.slot_core.specs.Runs.Traces.{Occurrence, arrive, slot, told_of, MayCome, IsLegal}
use Rattle.slot_facts.proofs.Legal.Executives.{every_executive_is_kept}
use Rattle.slot_facts.proofs.Legal.Traces.{legal-due}
use Rattle.scene_steps.specs.Steps.{scene_after, row_after, told_in, MayComeAfter}
use Rattle.scene_steps.proofs.Same.SameScenes.{same_scene-trans}
use Rattle.scene_steps.proofs.Same.SameSpans.{shown_of-same}
use Rattle.scene_steps.proofs.Same.SameSteps.{scene_after-same}
use Rattle.scene_steps.proofs.Same.SameTold.{told_in-same}
use Rattle.scene_steps.proofs.Model.Histories.{scene-follows, row-follows, told-in_scene}

-- what may come after the last row of a history may come after the history
MayCome-after : (set : TaskSet) (h : History) (last : ℕ) (next : Occurrence) → last ≡ last_row h → MayComeAfter set last next → MayCome set h next
MayCome-after set h last (arrive row event) same may =
    (subst (λ r. MayHaveRow r row event) same may.0, may.1)
MayCome-after set h last slot same may = tt

-- after an event that does what the model does, the executive stands for some history
pub StandsForSome-from_does : (before after : Executive) (next : Occurrence) (what : What) → Does before after next what → StandsForSome after
StandsForSome-from_does before after next what does =
    let (h, stands) = does.some in
    (what ∷ h, does.stands h stands)

-- the spans of its own scene are those that are shown
pub Shows-from_scene : (exec : Executive) → IsPlan exec.plan → StandsForSome exec → Shows exec (shown_of exec.plan.cycle exec.scene)
Shows-from_scene exec plan some =
    (some, λ h stands. shown_of-same exec.plan.cycle exec.scene (scene_of exec.plan.tasks exec.plan.cycle h) stands.same)

-- where the scenes, the last rows and what is told of the histories follow the steps

-- the scene of the longer history, where the cycle is that of the set
scene_at-follows : (set : TaskSet) (cycle : ℕ) (h : History) (what : What) → cycle ≡ cycle_of set → is_sound set ≡ true → IsFeasible set cycle → IsLegal set cycle (what ∷ h) → IsSameScene (scene_after set cycle what (scene_of set cycle h)) (scene_of set cycle (what ∷ h))
scene_at-follows set cycle h what is sound feasible legal =
    subst
    (λ c. IsFeasible set c → IsLegal set c (what ∷ h) → IsSameScene (scene_after set c what (scene_of set c h)) (scene_of set c (what ∷ h)))
    (sym is)
    (scene-follows set h what sound)
    feasible
    legal

-- what is told of an occurrence in the scene of an executive is told of it at each history for which it stands
pub told_in-stands : (exec : Executive) (next : Occurrence) (h : History) → IsPlan exec.plan → StandsFor exec h → told_in exec.plan.tasks exec.plan.cycle exec.scene next ≡ told_of exec.plan.tasks exec.plan.cycle h next
told_in-stands exec next h plan stands =
    let set = exec.plan.tasks in
    let cycle = exec.plan.cycle in
    let kept = every_executive_is_kept exec plan (h, stands) in
    told_in-same set cycle exec.scene (scene_of set cycle h) next kept.bounds.apart stands.same ∙ sym (told-in_scene set cycle h next)

-- after an occurrence that may come, the step of its entry matches the longer history
MatchesHistory-longer : (exec : Executive) (next : Occurrence) (what : What) (scene : Scene) (row : ℕ) (h : History) → IsPlan exec.plan → MayComeAfter exec.plan.tasks exec.last_row next → what ≡ told_of exec.plan.tasks exec.plan.cycle h next → IsSameScene scene (scene_after exec.plan.tasks exec.plan.cycle what exec.scene) → row ≡ row_after what exec.last_row → StandsFor exec h → MatchesHistory exec.plan.tasks exec.plan.cycle scene row (what ∷ h)
MatchesHistory-longer exec next what scene row h plan may told same last stands =
    let set = exec.plan.tasks in
    let cycle = exec.plan.cycle in
    let own = scene_of set cycle h in
    let come = MayCome-after set h exec.last_row next stands.last may in
    let legal = legal-due set cycle h what stands.legal (next, come, told) in
    let step = scene_after-same set cycle what exec.scene own stands.same in
    let follows = scene_at-follows set cycle h what plan.cycle plan.sound plan.feasible legal in
    let after = same_scene-trans (scene_after set cycle what exec.scene) (scene_after set cycle what own) (scene_of set cycle (what ∷ h)) step follows in
    record {
      legal = legal;
      same = same_scene-trans scene (scene_after set cycle what exec.scene) (scene_of set cycle (what ∷ h)) same after;
      last = last ∙ (ap (row_after what) stands.last ∙ sym (row-follows what h));
    }

-- an event that answers as the scene does, and changes the scene by the step, does what the model does
pub Does-from_step : (before after : Executive) (next : Occurrence) (what : What) → IsPlan before.plan → StandsForSome before → MayComeAfter before.plan.tasks before.last_row next → what ≡ told_in before.plan.tasks before.plan.cycle before.scene next → after.plan ≡ before.plan → IsSameScene after.scene (scene_after before.plan.tasks before.plan.cycle what before.scene) → after.last_row ≡ row_after what before.last_row → Does before after next what
Does-from_step before after next what plan some may is stays same last =
    let told = λ (h : History) (stands : StandsFor before h). is ∙ told_in-stands before next h plan stands in
    record {
      some = some;
      told = told;
      stands = λ h stands.
          subst
          (λ (p : PlanParts). MatchesHistory p.tasks p.cycle after.scene after.last_row (what ∷ h))
          (sym stays)
          (MatchesHistory-longer before next what after.scene after.last_row h plan may (told h stands) same last stands);
      plan = stays;
    }
