-- An executive that answers a firm offer as the model does, and takes its job in where it is accepted, has done what the
-- model does; and its answer is exact.
use Rattle.std.proofs.Common.{◌≡◌, ◌≢◌, ℕ, ◌<◌, ◌≤◌, true, refl, sym, ap, ◌∙◌, subst}
use Rattle.std.proofs.lemmas.Bool.{le-leb}
use Rattle.slot_core.specs.declared.TheConstants.{OFFER_LIMIT}
use Rattle.slot_core.specs.declared.tasks.TaskSet.{TaskSet}
use Rattle.slot_core.specs.declared.events.Event.TheVariants.{Firm as FirmEvent}
use Rattle.slot_core.specs.declared.events.Firm.{Firm as FirmAnswer}
use Rattle.slot_core.specs.declared.events.Firm.TheVariants.{Accepted, Late, Far, NoRoom}
use Rattle.slot_core.specs.declared.events.What.TheVariants.{Firm}
use Rattle.slot_core.specs.Runs.Answers.{firm_answer}
use Rattle.slot_core.specs.Runs.Arrivals.{event_may_come}
use Rattle.slot_core.specs.Sets.Cycles.{cycle_of}
use Rattle.slot_core.specs.Keeping.Executives.{Executive, StandsFor, StandsForSome, Does}
use Rattle.slot_core.specs.Feasibility.Feasible.{IsFeasible}
use Rattle.slot_core.specs.Claims.Futures.{OfferIsExact}
use Rattle.slot_core.specs.Runs.Histories.{History, offered_job}
use Rattle.slot_core.specs.Runs.Matches.{IsSameScene}
use Rattle.slot_core.specs.Keeping.Plans.{IsPlan}
use Rattle.slot_core.specs.Sets.Ranges.{is_sound}
use Rattle.slot_core.specs.Runs.Scenes.{Scene, scene_of}
use Rattle.slot_core.specs.Runs.Traces.{arrive, IsLegal}
use Rattle.slot_facts.proofs.Offers.Exact.{OfferIsExact-from_told}
use Rattle.scene_steps.specs.Joins.{MayJoin}
use Rattle.scene_steps.specs.Steps.{scene_after, with_job}
use Rattle.scene_steps.proofs.Joins.JoinedScenes.{MayJoin-from_joined}
use Rattle.scene_steps.proofs.Same.Events.{told_in-stands, Does-from_step, StandsForSome-from_does}
use Rattle.scene_steps.proofs.Same.SameScenes.{same_scene-refl}

-- an offer in its range may come
firm-may_come : (set : TaskSet) (slots within : ℕ) → 1 ≤ slots → slots ≤ OFFER_LIMIT → within ≤ OFFER_LIMIT → event_may_come set (FirmEvent slots within) ≡ true
firm-may_come set slots within some few near =
    rw (le-leb 1 slots some, le-leb slots OFFER_LIMIT few, le-leb within OFFER_LIMIT near) refl

-- an offer that is not accepted leaves the scene
scene_after-refused : (set : TaskSet) (cycle row slots within : ℕ) (answer : FirmAnswer) (scene : Scene) → answer ≢ Accepted → scene ≡ scene_after set cycle (Firm row slots within answer) scene
scene_after-refused set cycle row slots within Accepted scene not = absurd (not refl)
scene_after-refused set cycle row slots within Late scene not = refl
scene_after-refused set cycle row slots within Far scene not = refl
scene_after-refused set cycle row slots within (NoRoom evidence) scene not = refl

module _ (exec : Executive) (row slots within : ℕ) (plan : IsPlan exec.plan) (stands : StandsForSome exec) (later : exec.last_row < row) (some : 1 ≤ slots) (few : slots ≤ OFFER_LIMIT) (near : within ≤ OFFER_LIMIT) where
  -- an executive whose answer is that of the scene, and whose scene is the step of that answer
  Does-answered : (after : Executive) (answer : FirmAnswer) → answer ≡ firm_answer exec.plan.tasks.sporadics exec.plan.cycle exec.scene slots within → after.plan ≡ exec.plan → IsSameScene after.scene (scene_after exec.plan.tasks exec.plan.cycle (Firm row slots within answer) exec.scene) → after.last_row ≡ row → Does exec after (arrive row (FirmEvent slots within)) (Firm row slots within answer)
  Does-answered after answer is stays same last =
      Does-from_step exec after (arrive row (FirmEvent slots within)) (Firm row slots within answer) plan stands (later, firm-may_come exec.plan.tasks slots within some few near) (ap (Firm row slots within) is) stays same last

  -- an offer that is not accepted changes the last row alone
  pub Does-refused : (answer : FirmAnswer) → answer ≡ firm_answer exec.plan.tasks.sporadics exec.plan.cycle exec.scene slots within → answer ≢ Accepted → Does exec (record exec { last_row = row }) (arrive row (FirmEvent slots within)) (Firm row slots within answer)
  Does-refused answer is not =
      Does-answered (record exec { last_row = row }) answer is refl
      (subst (IsSameScene exec.scene) (scene_after-refused exec.plan.tasks exec.plan.cycle row slots within answer exec.scene not) (same_scene-refl exec.scene))
      refl

  -- one that is accepted has its job come in
  pub Does-accepted : (after : Executive) → Accepted ≡ firm_answer exec.plan.tasks.sporadics exec.plan.cycle exec.scene slots within → after.plan ≡ exec.plan → IsSameScene after.scene (with_job (offered_job row exec.scene.time slots within) exec.scene) → after.last_row ≡ row → Does exec after (arrive row (FirmEvent slots within)) (Firm row slots within Accepted)
  Does-accepted after is stays same last = Does-answered after Accepted is stays same last

  -- and that job may join the others
  pub MayJoin-accepted : Accepted ≡ firm_answer exec.plan.tasks.sporadics exec.plan.cycle exec.scene slots within → MayJoin exec.plan.cycle exec.scene (offered_job row exec.scene.time slots within)
  MayJoin-accepted is =
      let job = offered_job row exec.scene.time slots within in
      let joined : Scene = with_job job exec.scene in
      let after : Executive = record exec { scene = joined; last_row = row } in
      let does = Does-accepted after is refl (same_scene-refl joined) refl in
      MayJoin-from_joined exec after job plan refl (StandsForSome-from_does exec after _ _ does) refl refl refl

-- what is told of an offer at a legal history is exact
exact-legal : (set : TaskSet) (cycle : ℕ) (h : History) (slots within : ℕ) (answer : FirmAnswer) → cycle ≡ cycle_of set → is_sound set ≡ true → IsFeasible set cycle → IsLegal set cycle h → 1 ≤ slots → firm_answer set.sporadics cycle (scene_of set cycle h) slots within ≡ answer → OfferIsExact set cycle h slots within answer
exact-legal set cycle h slots within answer is sound feasible legal some told =
    subst
    (λ c. IsFeasible set c → IsLegal set c h → firm_answer set.sporadics c (scene_of set c h) slots within ≡ answer → OfferIsExact set c h slots within answer)
    (sym is)
    (λ fits own says. OfferIsExact-from_told set h slots within sound fits own some answer says)
    feasible
    legal
    told

-- so the answer of the scene of an executive is exact at each history for which it stands
pub exact-from_answer : (exec : Executive) (slots within : ℕ) (answer : FirmAnswer) (h : History) → IsPlan exec.plan → 1 ≤ slots → answer ≡ firm_answer exec.plan.tasks.sporadics exec.plan.cycle exec.scene slots within → StandsFor exec h → OfferIsExact exec.plan.tasks exec.plan.cycle h slots within answer
exact-from_answer exec slots within answer h plan some is stands =
    let cycle = exec.plan.cycle in
    let set = exec.plan.tasks in
    let same : firm_answer set.sporadics cycle exec.scene slots within ≡ firm_answer set.sporadics cycle (scene_of set cycle h) slots within = cc (told_in-stands exec (arrive 0 (FirmEvent slots within)) h plan stands) in
    exact-legal set cycle h slots within answer plan.cycle plan.sound plan.feasible stands.legal some (sym same ∙ sym is)
