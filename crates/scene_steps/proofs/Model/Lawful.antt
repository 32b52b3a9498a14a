-- Each entry of a lawful history changes its scene by its step, and so does a slot more in which anything ran that may.
use Rattle.std.proofs.Common.{◌≡◌, ℕ, ◌+◌, ◌/◌, true, ◌∷◌, refl, arith}
use Rattle.slot_core.specs.declared.tasks.TaskSet.{TaskSet}
use Rattle.slot_core.specs.declared.events.Event.{Event}
use Rattle.slot_core.specs.declared.events.Ran.{Ran}
use Rattle.slot_core.specs.declared.events.What.{What}
use Rattle.slot_core.specs.Sets.Cycles.{cycle_of}
use Rattle.slot_core.specs.Sets.Ranges.{is_sound}
use Rattle.slot_core.specs.Feasibility.Feasible.{IsFeasible}
use Rattle.slot_core.specs.Runs.Histories.{History, time_of}
use Rattle.slot_core.specs.Runs.Scenes.{scene_of}
use Rattle.slot_core.specs.Runs.Matches.{IsSameScene}
use Rattle.slot_core.specs.Runs.Traces.{arrive, told_of_slot, told_of, MayCome}
use Rattle.slot_core.specs.Claims.Lawful.{may_run, IsLawful}
use Rattle.slot_facts.proofs.Legal.Bounds.{Reaches}
use Rattle.slot_facts.proofs.Lawful.Data.{lawful-as_data, permitted-longer}
use Rattle.slot_facts.proofs.Lawful.Owned.{owned-lawful, owned-ran}
use Rattle.slot_facts.proofs.Lawful.Traces.{lawful-longer}
use Rattle.scene_steps.specs.Steps.{scene_after, after_ran}
use Rattle.scene_steps.proofs.Model.Histories.{entry-follows}
use Rattle.scene_steps.proofs.Model.Slots.{slot-follows}

-- the scene of a longer lawful history is that of the shorter one, after its last entry
pub scene-follows_lawful :
    (set : TaskSet) (h : History) (what : What)
    → is_sound set ≡ true → IsFeasible set (cycle_of set) → IsLawful set (cycle_of set) (what ∷ h)
    → IsSameScene
    (scene_after set (cycle_of set) what (scene_of set (cycle_of set) h))
    (scene_of set (cycle_of set) (what ∷ h))
scene-follows_lawful set h what sound feasible lawful =
    let after = what ∷ h in
    let told = lawful-as_data set (cycle_of set) after lawful in
    let cycles = time_of after / cycle_of set + 3 in
    let reaches : Reaches set after cycles = omega arith in
    entry-follows sound (owned-lawful set cycles after sound feasible told reaches) told

-- so is the scene after the answer to an arrival that may come
pub scene-follows_answer :
    (set : TaskSet) (h : History) (row : ℕ) (event : Event)
    → is_sound set ≡ true → IsFeasible set (cycle_of set) → IsLawful set (cycle_of set) h
    → MayCome set h (arrive row event)
    → IsSameScene
    (scene_after set (cycle_of set) (told_of set (cycle_of set) h (arrive row event)) (scene_of set (cycle_of set) h))
    (scene_of set (cycle_of set) (told_of set (cycle_of set) h (arrive row event) ∷ h))
scene-follows_answer set h row event sound feasible lawful may =
    let what = told_of set (cycle_of set) h (arrive row event) in
    scene-follows_lawful set h what sound feasible (lawful-longer set (cycle_of set) h what lawful (arrive row event, may, refl))

-- and the scene after a slot in which anything ran that may, whatever is late after it
pub scene-follows_ran :
    (set : TaskSet) (h : History) (ran : Ran)
    → is_sound set ≡ true → IsFeasible set (cycle_of set) → IsLawful set (cycle_of set) h
    → may_run set (scene_of set (cycle_of set) h) ran ≡ true
    → IsSameScene
    (after_ran set (cycle_of set) ran (scene_of set (cycle_of set) h))
    (scene_of set (cycle_of set) (told_of_slot ran ∷ h))
scene-follows_ran set h ran sound feasible lawful may =
    let after = told_of_slot ran ∷ h in
    let told = lawful-as_data set (cycle_of set) h lawful in
    let cycles = time_of after / cycle_of set + 3 in
    let reaches : Reaches set after cycles = omega arith in
    let owned = owned-ran set cycles h ran sound feasible told may reaches in
    slot-follows set ran h sound (permitted-longer set (cycle_of set) h ran told may) owned
