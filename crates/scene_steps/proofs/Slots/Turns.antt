-- The spans one slot later are those of the next scene.
use Rattle.std.proofs.Common.{◌≡◌, ℕ, ◌+◌, ◌*◌, ◌/◌, ◌%◌, ◌<◌, ◌==◌, Bool, true, false, cond, List, ◌++◌, filter, refl, ap, sym, ◌∙◌, subst, add-one, arith}
use Rattle.std.specs.Prelude.{nat_lt, if◌then◌else◌}
use Rattle.std.proofs.lemmas.Bool.{eqb-true}
use Rattle.slot_core.specs.declared.jobs.Job.{Job}
use Rattle.slot_core.specs.declared.events.Ran.{Ran}
use Rattle.slot_core.specs.declared.events.Ran.TheVariants.{Idle as RanIdle, Key as RanKey}
use Rattle.slot_core.specs.declared.tasks.TaskSet.{TaskSet}
use Rattle.slot_core.specs.Runs.Choice.{choice}
use Rattle.slot_core.specs.Keeping.Executives.{Executive, StandsForSome, Does}
use Rattle.slot_core.specs.Runs.Matches.{IsSameScene}
use Rattle.slot_core.specs.Offline.OfflineJobs.{cycle_jobs}
use Rattle.slot_core.specs.Keeping.Plans.{IsPlan}
use Rattle.slot_core.specs.Runs.Rising.{last_point}
use Rattle.slot_core.specs.Claims.Safety.{after_slot}
use Rattle.slot_core.specs.Runs.Scenes.{Scene}
use Rattle.slot_core.specs.Runs.Spans.{spans_between, spans_of}
use Rattle.slot_core.specs.Runs.Traces.{slot, told_of_slot}
use Rattle.slot_facts.proofs.Plans.Horizons.{next_slot, inside, turn}
use Rattle.slot_facts.proofs.Plans.Items.{plan_cycle-bounds}
use Rattle.spare_capacity.specs.Recurrence.{filled}
use Rattle.interval_row.specs.Changes.{after_pass, appended}
use Rattle.scene_steps.specs.Rows.{spans}
use Rattle.scene_steps.specs.Steps.{after_ran, one_slot_later, points_in_cycle, row_after, scene_after, with_cycle}
use Rattle.scene_steps.proofs.Facts.AfterChoice.{later-after_choice}
use Rattle.scene_steps.proofs.Facts.ProperScenes.{proper_scene}
use Rattle.scene_steps.proofs.Rows.Cycles.{spans-next_cycle}
use Rattle.scene_steps.proofs.Rows.Later.{due_later, rising_later, spans-later}
use Rattle.scene_steps.proofs.Same.Events.{Does-from_step, StandsForSome-from_does}
use Rattle.scene_steps.proofs.Same.SameScenes.{same_scene-refl}
use Rattle.scene_steps.proofs.Slots.Runs.{due-after_slot}
use Rattle.scene_steps.proofs.Spans.Points.{last_point-later}
use Rattle.scene_steps.proofs.Spans.Proper.{horizon-at_least}

-- what an entry of a slot changes in a scene is what its run does
pub scene_after-slot : (set : TaskSet) (cycle : ℕ) (ran : Ran) (scene : Scene) → scene_after set cycle (told_of_slot ran) scene ≡ after_ran set cycle ran scene
scene_after-slot set cycle RanIdle scene = refl
scene_after-slot set cycle (RanKey key) scene = refl

-- a slot leaves the last row
row_after-slot : (ran : Ran) (last : ℕ) → last ≡ row_after (told_of_slot ran) last
row_after-slot RanIdle last = refl
row_after-slot (RanKey key) last = refl

-- an executive with the same plan and last row and the scene after the slot does what the model does
pub Does-slot : (exec after : Executive) (ran : Ran) → IsPlan exec.plan → StandsForSome exec → ran ≡ choice exec.plan.tasks.sporadics exec.plan.cycle exec.scene → after.plan ≡ exec.plan → IsSameScene after.scene (after_ran exec.plan.tasks exec.plan.cycle ran exec.scene) → after.last_row ≡ exec.last_row → Does exec after slot (told_of_slot ran)
Does-slot exec after ran plan stands is stays same last =
    let step = scene_after-slot exec.plan.tasks exec.plan.cycle ran exec.scene in
    Does-from_step exec after slot (told_of_slot ran) plan stands tt (ap told_of_slot is) stays (subst (IsSameScene after.scene) (sym step) same) (last ∙ row_after-slot ran exec.last_row)

module _ (exec : Executive) (plan : IsPlan exec.plan) (stands : StandsForSome exec) where
  -- the tasks of its plan
  abbrev set : TaskSet
  set = exec.plan.tasks

  -- the cycle of its plan
  abbrev cycle : ℕ
  cycle = exec.plan.cycle

  -- its time
  abbrev t : ℕ
  t = exec.scene.time

  -- what its slot runs
  abbrev ran : Ran
  ran = choice exec.plan.tasks.sporadics exec.plan.cycle exec.scene

  -- the jobs that this leaves
  abbrev jobs : List Job
  jobs = after_slot ran exec.scene.jobs

  -- the points after the next slot starts
  abbrev points : List ℕ
  points = filter (nat_lt (t + 1)) exec.scene.points

  -- the executive after the slot
  abbrev next : Executive
  next = record exec { scene = after_ran set cycle ran exec.scene }

  -- it stands for some history
  pub StandsForSome-slot : StandsForSome next
  StandsForSome-slot =
      StandsForSome-from_does exec next slot (told_of_slot ran) (Does-slot exec next ran plan stands refl refl (same_scene-refl next.scene) refl)

  -- the next slot lies before the last point
  before_last : t + 1 < last_point t exec.scene.points
  before_last =
      omega (arith, (proper_scene exec plan stands).last, horizon-at_least cycle t (plan_cycle-bounds exec.plan plan).0)

  -- a slot later the spans are those from the next slot on
  pub spans-after_pass : filled (after_pass (spans_of cycle (record exec.scene { jobs = jobs }))) ≡ spans jobs (t + 1) points
  spans-after_pass =
      let proper = proper_scene exec plan stands in
      let due = due-after_slot ran exec.scene.points exec.scene.jobs proper.due in
      subst
      (λ end. filled (after_pass (spans_between jobs end t exec.scene.points)) ≡ spans jobs (t + 1) points)
      proper.last
      (spans-later jobs t exec.scene.points proper.rising due (later-after_choice exec plan stands) before_last)

  -- they end where a cycle more is to come in
  last-turn : (t + 1) % cycle ≡ 0 → last_point (t + 1) points ≡ ((t + 1) / cycle + 2) * cycle
  last-turn turns =
      let proper = proper_scene exec plan stands in
      let last = last_point-later (t + 1) t exec.scene.points proper.rising (omega arith) before_last in
      elim (next_slot t cycle (plan_cycle-bounds exec.plan plan).0) [
        | turn even later whole ↦
            let counted : (t + 1) / cycle + 2 ≡ t / cycle + 3 = ap (λ u. u / cycle + 2) (add-one t) ∙ omega (arith, later) in
            last ∙ proper.last ∙ ap (λ n. n * cycle) (sym counted)
        | inside odd same ↦ absurd (odd (ap (λ u. u % cycle) (sym (add-one t)) ∙ turns))
      ]

  -- with the plan's spans of that cycle they are the spans with its jobs and points
  spans-turn : (t + 1) % cycle ≡ 0 → let n = (t + 1) / cycle + 2 in appended exec.plan.spans (spans jobs (t + 1) points) ≡ spans (jobs ++ cycle_jobs set cycle n) (t + 1) (points ++ points_in_cycle set cycle n)
  spans-turn turns =
      let proper = proper_scene exec plan stands in
      let due = due-after_slot ran exec.scene.points exec.scene.jobs proper.due in
      let last = last-turn turns in
      let far : t + 1 < last_point (t + 1) points = omega (arith, last_point-later (t + 1) t exec.scene.points proper.rising (omega arith) before_last, before_last) in
      spans-next_cycle exec.plan jobs (t + 1) ((t + 1) / cycle + 2) points plan (rising_later t exec.scene.points proper.rising) (due_later jobs t exec.scene.points due (later-after_choice exec plan stands)) far last

  -- the spans of the next scene, up to its last point
  spans-next : spans next.scene.jobs next.scene.time next.scene.points ≡ spans_of cycle next.scene
  spans-next =
      let proper = proper_scene next plan StandsForSome-slot in
      ap (λ end. spans_between next.scene.jobs end next.scene.time next.scene.points) proper.last

  -- with the plan's spans of one more cycle where a cycle ends, they are the spans of the next scene
  pub spans-after_slot : let later = filled (after_pass (spans_of cycle (record exec.scene { jobs = jobs }))) in (if (t + 1) % cycle == 0 then appended exec.plan.spans later else later) ≡ spans_of cycle (after_ran set cycle ran exec.scene)
  spans-after_slot =
      let scene = one_slot_later ran exec.scene in
      let more = with_cycle set cycle ((t + 1) / cycle + 2) scene in
      let up_to = λ (s : Scene). spans s.jobs s.time s.points in
      rw spans-after_pass
      (subst (λ xs. cond ((t + 1) % cycle == 0) (appended exec.plan.spans (up_to scene)) (up_to scene) ≡ xs) spans-next
      (by_test ((t + 1) % cycle == 0) (λ turns. spans-turn (eqb-true ((t + 1) % cycle) 0 turns))))
    where
      by_test : (b : Bool) → (b ≡ true → appended exec.plan.spans (spans jobs (t + 1) points) ≡ spans (jobs ++ cycle_jobs set cycle ((t + 1) / cycle + 2)) (t + 1) (points ++ points_in_cycle set cycle ((t + 1) / cycle + 2))) → cond b (appended exec.plan.spans (spans jobs (t + 1) points)) (spans jobs (t + 1) points) ≡ (let s = cond b (with_cycle set cycle ((t + 1) / cycle + 2) (one_slot_later ran exec.scene)) (one_slot_later ran exec.scene) in spans s.jobs s.time s.points)
      by_test true comes = comes refl
      by_test false comes = refl
