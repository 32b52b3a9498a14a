-- An executive with the parts that an early end leaves, or with soft work more, has done what the model does.
use Rattle.std.proofs.Common.{◌≡◌, ℕ, ◌<◌, ◌≤◌, true, false, ◌==◌, cond, length, refl, sym, ap, subst}
use Rattle.std.proofs.lemmas.Bool.{le-leb}
use Rattle.slot_core.specs.declared.TheConstants.{OFFER_LIMIT}
use Rattle.slot_core.specs.declared.jobs.Key.{Key}
use Rattle.slot_core.specs.declared.events.Event.TheVariants.{Soft as SoftEvent, Done as DoneEvent}
use Rattle.slot_core.specs.declared.events.What.TheVariants.{Soft, Done}
use Rattle.slot_core.specs.declared.events.Soft.{Soft as SoftAnswer}
use Rattle.slot_core.specs.declared.events.Soft.TheVariants.{Taken, Full}
use Rattle.slot_core.specs.Runs.Answers.{soft_answer}
use Rattle.slot_core.specs.Keeping.Executives.{Executive, StandsForSome, Does}
use Rattle.slot_core.specs.Runs.Matches.{IsSameScene}
use Rattle.slot_core.specs.Keeping.Plans.{IsPlan}
use Rattle.slot_core.specs.Sets.Ranges.{is_between}
use Rattle.slot_core.specs.Runs.Traces.{arrive}
use Rattle.slot_facts.proofs.Legal.Executives.{every_executive_is_kept}
use Rattle.scene_steps.specs.Ends.{freed}
use Rattle.scene_steps.specs.Steps.{scene_after, with_soft}
use Rattle.scene_steps.proofs.Ends.EndAnswers.{done_answer-freed}
use Rattle.scene_steps.proofs.Ends.EndedScenes.{ended, scene_after-ended}
use Rattle.scene_steps.proofs.Same.Events.{Does-from_step}
use Rattle.scene_steps.proofs.Same.SameScenes.{same_scene-refl}
use Rattle.scene_steps.proofs.Slots.Chosen.{listed-not_soft}

-- after an early end, an executive with what the end leaves of the scene
pub Does-done : (before after : Executive) (row : ℕ) (key : Key) → IsPlan before.plan → StandsForSome before → before.last_row ≤ row → after.plan ≡ before.plan → IsSameScene after.scene (ended key before.scene) → after.last_row ≡ row → Does before after (arrive row (DoneEvent key)) (Done row key (freed before.scene.time key before.scene.jobs before.scene.soft))
Does-done before after row key plan stands later stays same last =
    let set = before.plan.tasks in
    let cycle = before.plan.cycle in
    let scene = before.scene in
    let rows = (every_executive_is_kept before plan stands).soft.rows in
    let told = ap (Done row key) (sym (done_answer-freed before key plan stands)) in
    let step = scene_after-ended set cycle row key scene rows (λ job at. listed-not_soft before job plan stands at) in
    Does-from_step before after (arrive row (DoneEvent key)) (Done row key (freed scene.time key scene.jobs scene.soft)) plan stands (later, refl) told stays (subst (IsSameScene after.scene) (sym step) same) last

-- soft work that is answered as the scene does, and of which the scene becomes the step
soft-arrives : (before after : Executive) (row slots : ℕ) (answer : SoftAnswer) → IsPlan before.plan → StandsForSome before → before.last_row < row → 1 ≤ slots → slots ≤ OFFER_LIMIT → answer ≡ soft_answer before.plan.tasks.soft_limit before.scene → after.plan ≡ before.plan → after.scene ≡ scene_after before.plan.tasks before.plan.cycle (Soft row slots answer) before.scene → after.last_row ≡ row → Does before after (arrive row (SoftEvent slots)) (Soft row slots answer)
soft-arrives before after row slots answer plan stands later some few is stays same last =
    let may : is_between 1 OFFER_LIMIT slots ≡ true = rw (le-leb 1 slots some) (le-leb slots OFFER_LIMIT few) in
    Does-from_step before after (arrive row (SoftEvent slots)) (Soft row slots answer) plan stands (later, may) (ap (Soft row slots) is) stays (subst (IsSameScene after.scene) same (same_scene-refl after.scene)) last

-- where as many soft jobs wait as may, soft work changes the last row alone
pub Does-soft_full : (exec : Executive) (row slots : ℕ) → IsPlan exec.plan → StandsForSome exec → exec.last_row < row → 1 ≤ slots → slots ≤ OFFER_LIMIT → (length exec.scene.soft == exec.plan.tasks.soft_limit) ≡ true → Does exec (record exec { last_row = row }) (arrive row (SoftEvent slots)) (Soft row slots (Full exec.plan.tasks.soft_limit))
Does-soft_full exec row slots plan stands later some few full =
    let answer = Full exec.plan.tasks.soft_limit in
    soft-arrives exec (record exec { last_row = row }) row slots answer plan stands later some few (ap (λ b. cond b answer Taken) (sym full)) refl refl refl

-- where fewer wait, one more does
pub Does-soft_taken : (exec : Executive) (row slots : ℕ) → IsPlan exec.plan → StandsForSome exec → exec.last_row < row → 1 ≤ slots → slots ≤ OFFER_LIMIT → (length exec.scene.soft == exec.plan.tasks.soft_limit) ≡ false → Does exec (record exec { scene = with_soft row slots exec.scene; last_row = row }) (arrive row (SoftEvent slots)) (Soft row slots Taken)
Does-soft_taken exec row slots plan stands later some few free =
    soft-arrives exec (record exec { scene = with_soft row slots exec.scene; last_row = row }) row slots Taken plan stands later some few (ap (λ b. cond b (Full exec.plan.tasks.soft_limit) Taken) (sym free)) refl refl refl
