-- In scenes that are the same the same may run, and the same is in time; one that is that of a lawful history is so
-- after what may be told next.
use Rattle.std.proofs.Common.{◌≡◌, ℕ, Bool, true, not, ◌&&◌, ◌||◌, List, ◌∷◌, refl, sym, ap, ◌∙◌, subst}
use Rattle.std.specs.Prelude.{nat_le, nat_lt}
use Rattle.std.specs.List.{list_all, list_any}
use Rattle.slot_core.specs.declared.jobs.Job.{Job}
use Rattle.slot_core.specs.declared.jobs.SoftJob.{SoftJob}
use Rattle.slot_core.specs.declared.jobs.Key.{Key}
use Rattle.slot_core.specs.declared.jobs.Key.TheVariants.{Soft as SoftKey}
use Rattle.slot_core.specs.declared.tasks.TaskSet.{TaskSet}
use Rattle.slot_core.specs.declared.events.Ran.{Ran}
use Rattle.slot_core.specs.declared.events.Ran.TheVariants.{Idle as RanIdle, Key as RanKey}
use Rattle.slot_core.specs.declared.events.Event.{Event}
use Rattle.slot_core.specs.Claims.Lawful.{job_may_run, soft_job_may_run, may_run, is_in_time, IsLawful}
use Rattle.slot_core.specs.Feasibility.Feasible.{IsFeasible}
use Rattle.slot_core.specs.Runs.Answers.{answer}
use Rattle.slot_core.specs.Runs.Histories.{History}
use Rattle.slot_core.specs.Runs.Traces.{arrive, told_of_slot, told_of, MayCome}
use Rattle.slot_core.specs.Sets.Cycles.{cycle_of}
use Rattle.slot_core.specs.Sets.Ranges.{is_sound}
use Rattle.slot_core.specs.Offline.Keys.{same_key}
use Rattle.slot_core.specs.Offline.Windows.{precedes}
use Rattle.slot_core.specs.Runs.Matches.{HaveSameItems, IsSameScene}
use Rattle.slot_core.specs.Runs.Scenes.{Scene, scene_of}
use Rattle.slot_facts.proofs.Lawful.Data.{lawful-as_data}
use Rattle.slot_facts.proofs.Lists.Members.{Has-from_list_any, list_any-from_Has, passes_from_list_all}
use Rattle.slot_facts.proofs.Lists.SameItems.{same-sym, passes-same, all-same}
use Rattle.slot_facts.proofs.Lists.Tests.{same_tests, list_all-from_Has}
use Rattle.scene_steps.specs.Steps.{scene_after}
use Rattle.scene_steps.proofs.Facts.AnySlots.{remaining-apart}
use Rattle.scene_steps.proofs.Model.Lawful.{scene-follows_answer, scene-follows_ran}
use Rattle.scene_steps.proofs.Same.SameAnswers.{answer-same}
use Rattle.scene_steps.proofs.Same.SameScenes.{same_scene-sym, same_scene-trans}
use Rattle.scene_steps.proofs.Same.SameSteps.{scene_after-same}
use Rattle.scene_steps.proofs.Slots.Turns.{scene_after-slot}

-- one of the same items passes a test, or none
any-same : {X : Type 0} (p : X → Bool) (xs ys : List X) → HaveSameItems xs ys → list_any p xs ≡ list_any p ys
any-same {X = X} p xs ys same =
    same_tests (list_any p xs) (list_any p ys) (there xs ys same) (there ys xs (same-sym xs ys same))
  where
    there : (us vs : List X) → HaveSameItems us vs → list_any p us ≡ true → list_any p vs ≡ true
    there us vs same found =
        let one = Has-from_list_any p us found in
        let other = passes-same p us vs one.0 same one.1 one.2 in
        list_any-from_Has p vs other.0 other.1 other.2

-- all pass it, or not
all_pass-same : {X : Type 0} (p : X → Bool) (xs ys : List X) → HaveSameItems xs ys → list_all p xs ≡ list_all p ys
all_pass-same {X = X} p xs ys same =
    same_tests (list_all p xs) (list_all p ys) (there xs ys same) (there ys xs (same-sym xs ys same))
  where
    there : (us vs : List X) → HaveSameItems us vs → list_all p us ≡ true → list_all p vs ≡ true
    there us vs same all =
        list_all-from_Has p vs (all-same p us vs same (λ x at. passes_from_list_all p us x all at))

-- a job may run in the one scene where it may in the other
job_may_run-same : (set : TaskSet) (a b : Scene) (key : Key) → IsSameScene a b → job_may_run set a key ≡ job_may_run set b key
job_may_run-same set a b key same =
    let begun = λ (t : ℕ) (j : Job). same_key j.key key && nat_le j.est t in
    let free = λ (j : Job). not (precedes set j.key key) in
    let first : list_any (begun a.time) a.jobs ≡ list_any (begun b.time) b.jobs = any-same (begun a.time) a.jobs b.jobs same.jobs ∙ ap (λ t. list_any (begun t) b.jobs) same.time in
    ap (λ x. x && list_all free a.jobs) first ∙ ap (λ x. list_any (begun b.time) b.jobs && x) (all_pass-same free a.jobs b.jobs same.jobs)

-- so may anything
pub may_run-same : (set : TaskSet) (a b : Scene) (ran : Ran) → IsSameScene a b → may_run set a ran ≡ may_run set b ran
may_run-same set a b RanIdle same = refl
may_run-same set a b (RanKey key) same =
    let soft : soft_job_may_run a key ≡ soft_job_may_run b key = ap (list_any (λ (s : SoftJob). same_key (SoftKey s.row) key)) same.soft in
    ap (λ x. x || soft_job_may_run a key) (job_may_run-same set a b key same) ∙ ap (λ x. job_may_run set b key || x) soft

-- and the one is in time where the other is
pub is_in_time-same : (a b : Scene) → IsSameScene a b → is_in_time a ≡ is_in_time b
is_in_time-same a b same =
    let later = λ (t : ℕ) (j : Job). nat_lt t j.dl in
    all_pass-same (later a.time) a.jobs b.jobs same.jobs ∙ ap (λ t. list_all (later t) b.jobs) same.time

module _ (set : TaskSet) (h : History) (a : Scene) (sound : is_sound set ≡ true) (feasible : IsFeasible set (cycle_of set)) (lawful : IsLawful set (cycle_of set) h) (same : IsSameScene a (scene_of set (cycle_of set) h)) where
  -- where a scene is that of a lawful history, it is so after a slot in which anything ran that may
  pub same_scene-ran : (ran : Ran) → may_run set a ran ≡ true → IsSameScene (scene_after set (cycle_of set) (told_of_slot ran) a) (scene_of set (cycle_of set) (told_of_slot ran ∷ h))
  same_scene-ran ran may =
      let cycle = cycle_of set in
      let scene = scene_of set cycle h in
      let permitted = sym (may_run-same set a scene ran same) ∙ may in
      let follows = subst (λ s. IsSameScene s (scene_of set cycle (told_of_slot ran ∷ h))) (sym (scene_after-slot set cycle ran scene)) (scene-follows_ran set h ran sound feasible lawful permitted) in
      same_scene-trans _ _ _ (scene_after-same set cycle (told_of_slot ran) a scene same) follows

  -- what is answered to an arrival is what is told of it
  pub answer-lawful : (row : ℕ) (event : Event) → answer set (cycle_of set) a row event ≡ told_of set (cycle_of set) h (arrive row event)
  answer-lawful row event =
      let told = lawful-as_data set (cycle_of set) h lawful in
      let scene = scene_of set (cycle_of set) h in
      sym (answer-same set (cycle_of set) scene a row event (remaining-apart set h sound told) (same_scene-sym a scene same))

  -- and the scene is that of the history after it
  pub same_scene-answer : (row : ℕ) (event : Event) → MayCome set h (arrive row event) → IsSameScene (scene_after set (cycle_of set) (told_of set (cycle_of set) h (arrive row event)) a) (scene_of set (cycle_of set) (told_of set (cycle_of set) h (arrive row event) ∷ h))
  same_scene-answer row event may =
      let cycle = cycle_of set in
      let what = told_of set cycle h (arrive row event) in
      same_scene-trans _ _ _ (scene_after-same set cycle what a (scene_of set cycle h) same) (scene-follows_answer set h row event sound feasible lawful may)
