-- The scene of a lawful history is checked, and so is that after what may be told next, late or not.
use Rattle.std.proofs.Common.{◌≡◌, ℕ, ◌<◌, ◌≤◌, ◌^◌, true, ◌∷◌, refl, sym, ◌∙◌, subst, arith}
use Rattle.slot_core.specs.declared.TheConstants.{ARRIVAL_LIMIT}
use Rattle.slot_core.specs.declared.tasks.TaskSet.{TaskSet}
use Rattle.slot_core.specs.declared.events.Event.{Event}
use Rattle.slot_core.specs.declared.events.Ran.{Ran}
use Rattle.slot_core.specs.declared.events.What.{What}
use Rattle.slot_core.specs.Claims.Lawful.{may_run, MayTell, IsLawful}
use Rattle.slot_core.specs.Feasibility.Feasible.{IsFeasible}
use Rattle.slot_core.specs.Runs.Histories.{History, time_of, last_row}
use Rattle.slot_core.specs.Runs.Matches.{IsSameScene}
use Rattle.slot_core.specs.Runs.Scenes.{Scene, scene_of}
use Rattle.slot_core.specs.Runs.Traces.{Occurrence, arrive, slot, told_of, told_of_slot, MayCome}
use Rattle.slot_core.specs.Sets.Cycles.{cycle_of}
use Rattle.slot_core.specs.Sets.Ranges.{is_sound}
use Rattle.slot_facts.proofs.Lawful.Data.{IsPermitted, lawful-as_data, permitted-longer}
use Rattle.slot_facts.proofs.Lawful.Traces.{lawful-longer}
use Rattle.slot_facts.proofs.Legal.Data.{Slots, Entries}
use Rattle.slot_facts.proofs.Legal.Traces.{row_past, last_row-arrival, last_row-ran}
use Rattle.slot_facts.proofs.Replays.Entries.{time_of-arrival, time_of-ran}
use Rattle.scene_steps.specs.Steps.{scene_after, after_ran}
use Rattle.scene_steps.proofs.Facts.AnySlots.{scene-apart, scene-left, scene-few, scene-near, scene-at_points, scene-rising, scene-last, scene-one_each}
use Rattle.scene_steps.proofs.Same.SameLawful.{may_run-same, same_scene-ran, answer-lawful, same_scene-answer}
use Rattle.scene_steps.proofs.Same.SameScenes.{same_scene-trans}
use Rattle.trace_verify.specs.Checked.{IsChecked}
use Rattle.trace_verify.specs.SceneLines.{IsCheckedAfter}
use Rattle.scene_steps.proofs.Slots.Turns.{scene_after-slot}
use Rattle.trace_verify.proofs.DueInOrder.{scene-in_order}

-- a scene that is that of a history in which few slots have passed is checked, whatever ran in them
pub checked-entries : {S : Slots} (set : TaskSet) (h : History) (a : Scene) → is_sound set ≡ true → IsFeasible set (cycle_of set) → Entries S set (cycle_of set) h → IsSameScene a (scene_of set (cycle_of set) h) → time_of h ≤ 2 ^ 32 → last_row h ≤ ARRIVAL_LIMIT → IsChecked set (cycle_of set) a
checked-entries set h a sound feasible told same early rows =
    let few : a.time ≤ 2 ^ 32 = omega (arith, same.time) in
    record {
      early = few;
      apart = scene-apart set h a sound told same;
      some = scene-left set h a sound told same;
      small = omega (arith, scene-few set h a sound told same feasible few rows);
      near = scene-near set h a sound told same;
      due = scene-at_points set h a sound told same feasible;
      in_order = scene-in_order set h a sound feasible told same;
      rising = scene-rising set h a sound told same;
      last = scene-last set h a sound told same feasible;
      one_each = scene-one_each set h a sound told same;
    }

module _ (set : TaskSet) (h : History) (a : Scene) (sound : is_sound set ≡ true) (feasible : IsFeasible set (cycle_of set)) (lawful : IsLawful set (cycle_of set) h) (same : IsSameScene a (scene_of set (cycle_of set) h)) where
  -- so is one that is that of a lawful history
  pub checked-lawful : time_of h ≤ 2 ^ 32 → last_row h ≤ ARRIVAL_LIMIT → IsChecked set (cycle_of set) a
  checked-lawful early rows =
      checked-entries set h a sound feasible (lawful-as_data set (cycle_of set) h lawful) same early rows

  -- and one after a slot in which anything ran that may
  checked-ran : (ran : Ran) (after : Scene) → time_of h < 2 ^ 32 → last_row h ≤ ARRIVAL_LIMIT → may_run set a ran ≡ true → IsSameScene after (after_ran set (cycle_of set) ran a) → IsChecked set (cycle_of set) after
  checked-ran ran after early rows may is =
      let cycle = cycle_of set in
      let longer = told_of_slot ran ∷ h in
      let permitted : IsPermitted set cycle h ran = sym (may_run-same set a (scene_of set cycle h) ran same) ∙ may in
      let told = permitted-longer set cycle h ran (lawful-as_data set cycle h lawful) permitted in
      let own = subst (IsSameScene after) (sym (scene_after-slot set cycle ran a)) is in
      let here = same_scene-trans after _ (scene_of set cycle longer) own (same_scene-ran set h a sound feasible lawful same ran may) in
      checked-entries set longer after sound feasible told here (omega (arith, time_of-ran ran h)) (omega (arith, last_row-ran ran h))

  -- and one after the answer to an arrival
  checked-answer : (row : ℕ) (event : Event) (after : Scene) → time_of h ≤ 2 ^ 32 → row ≤ ARRIVAL_LIMIT → MayCome set h (arrive row event) → IsSameScene after (scene_after set (cycle_of set) (told_of set (cycle_of set) h (arrive row event)) a) → IsChecked set (cycle_of set) after
  checked-answer row event after early rows may is =
      let cycle = cycle_of set in
      let what = told_of set cycle h (arrive row event) in
      let longer = lawful-longer set cycle h what lawful (arrive row event, may, refl) in
      let here = same_scene-trans after _ (scene_of set cycle (what ∷ h)) is (same_scene-answer set h a sound feasible lawful same row event may) in
      checked-entries set (what ∷ h) after sound feasible (lawful-as_data set cycle (what ∷ h) longer) here (omega (arith, time_of-arrival set cycle h row event)) (omega (arith, last_row-arrival set cycle h row event))

  -- so it is after what may be told next
  pub checked-after : (next : Occurrence) → MayCome set h next → time_of h < 2 ^ 32 → row_past next (last_row h) ≤ ARRIVAL_LIMIT → IsCheckedAfter set (cycle_of set) a next
  checked-after (arrive row event) may early rows =
      let told = answer-lawful set h a sound feasible lawful same row event in
      λ after is. checked-answer row event after (omega arith) rows may (subst (λ w. IsSameScene after (scene_after set (cycle_of set) w a)) told is)
  checked-after slot may early rows =
      λ ran after runs is. checked-ran ran after early rows runs is

  -- and after what may be told of it the scene is that of the longer history
  pub follows-tells : (next : Occurrence) (what : What) → MayCome set h next → MayTell set (cycle_of set) h next what → IsSameScene (scene_after set (cycle_of set) what a) (scene_of set (cycle_of set) (what ∷ h))
  follows-tells (arrive row event) what may tells =
      let cycle = cycle_of set in
      subst (λ w. IsSameScene (scene_after set cycle w a) (scene_of set cycle (w ∷ h))) (sym tells) (same_scene-answer set h a sound feasible lawful same row event may)
  follows-tells slot what may (ran, is, runs, timely) =
      let cycle = cycle_of set in
      let permitted = may_run-same set a (scene_of set cycle h) ran same ∙ runs in
      subst (λ w. IsSameScene (scene_after set cycle w a) (scene_of set cycle (w ∷ h))) (sym is) (same_scene-ran set h a sound feasible lawful same ran permitted)
