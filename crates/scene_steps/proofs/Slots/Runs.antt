-- The spans once the choice of a slot has run.
use Rattle.std.proofs.Common.{◌≡◌, ℕ, ◌+◌, ◌-◌, ◌/◌, ◌≤◌, cond, Bool, true, false, List, map, subst}
use Rattle.std.specs.Prelude.{Contains, nat_lt}
use Rattle.std.proofs.lemmas.List.Elements.{All-contains, All-filter, All-map, All-weaker, recursion_from_All}
use Rattle.slot_core.specs.declared.jobs.Job.{Job}
use Rattle.slot_core.specs.declared.jobs.Key.{Key}
use Rattle.slot_core.specs.declared.events.Ran.{Ran}
use Rattle.slot_core.specs.declared.events.Ran.TheVariants.{Idle as RanIdle, Key as RanKey}
use Rattle.slot_core.specs.Keeping.Executives.{Executive, StandsForSome}
use Rattle.slot_core.specs.Offline.Keys.{same_key}
use Rattle.slot_core.specs.Keeping.Plans.{IsPlan}
use Rattle.slot_core.specs.Claims.Safety.{after_run, after_slot}
use Rattle.slot_core.specs.Runs.Spans.{spans_between, spans_of}
use Rattle.slot_facts.proofs.Legal.Executives.{every_executive_is_kept}
use Rattle.slot_facts.proofs.Lists.Members.{Contains-from_Has, Has}
use Rattle.spare_capacity.specs.Recurrence.{filled}
use Rattle.interval_row.specs.Changes.{with_less}
use Rattle.scene_steps.specs.Rows.{AreDueAmong}
use Rattle.scene_steps.proofs.Facts.ProperScenes.{proper_scene}
use Rattle.scene_steps.proofs.Facts.SceneWork.{all-have_left}
use Rattle.scene_steps.proofs.Rows.JobWorks.{work_between-after_run}
use Rattle.scene_steps.proofs.Rows.Works.{spans-less}

-- the jobs that a run leaves are due at the same points
pub due-after_run : (key : Key) (points : List ℕ) (jobs : List Job) → AreDueAmong points jobs → AreDueAmong points (after_run key jobs)
due-after_run key points jobs due =
    let ran = λ (j : Job). cond (same_key j.key key) (record j { left = j.left - 1 }) j in
    let is_due = λ (j : Job). Contains points j.dl in
    All-filter (λ (j : Job). nat_lt 0 j.left) is_due (map ran jobs)
    (All-map is_due ran jobs (All-weaker is_due (λ (j : Job). is_due (ran j)) (λ j at. by_test (same_key j.key key) j at) jobs due))
  where
    by_test : (b : Bool) (j : Job) → Contains points j.dl → Contains points (cond b (record j { left = j.left - 1 }) j).dl
    by_test true j at = at
    by_test false j at = at

-- so it is after a slot
pub due-after_slot : (ran : Ran) (points : List ℕ) (jobs : List Job) → AreDueAmong points jobs → AreDueAmong points (after_slot ran jobs)
due-after_slot RanIdle points jobs due = due
due-after_slot (RanKey key) points jobs due = due-after_run key points jobs due

-- where a job of the scene runs, its span has a slot of work less
pub spans-after_run : (exec : Executive) (job : Job) → IsPlan exec.plan → StandsForSome exec → Has exec.scene.jobs job → filled (with_less job.dl 1 (spans_of exec.plan.cycle exec.scene)) ≡ spans_of exec.plan.cycle (record exec.scene { jobs = after_run job.key exec.scene.jobs })
spans-after_run exec job plan stands at =
    let scene = exec.scene in
    let cycle = exec.plan.cycle in
    let after = after_run job.key scene.jobs in
    let proper = proper_scene exec plan stands in
    let bounds = (every_executive_is_kept exec plan stands).bounds in
    let some = recursion_from_All (λ (j : Job). 1 ≤ j.left) scene.jobs (all-have_left exec.plan.tasks cycle (scene.time / cycle + 3) scene bounds) in
    let point = All-contains (λ (j : Job). Contains scene.points j.dl) scene.jobs job proper.due (Contains-from_Has scene.jobs job at) in
    subst
    (λ end. filled (with_less job.dl 1 (spans_between scene.jobs end scene.time scene.points)) ≡ spans_between after end scene.time scene.points)
    proper.last
    (spans-less scene.jobs after scene.time scene.points job.dl 1 proper.rising proper.due (due-after_run job.key scene.points scene.jobs proper.due) point (work_between-after_run scene.jobs job bounds.apart some at))
