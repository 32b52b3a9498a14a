-- One more cycle of the plan finds room once the choice of a slot has run.
use Rattle.std.proofs.Common.{◌≡◌, ℕ, ◌+◌, ◌*◌, ◌/◌, ◌%◌, ◌^◌, ◌<◌, ◌≤◌, cond, List, ◌++◌, length, map, refl, subst, arith}
use Rattle.std.specs.Prelude.{count_by}
use Rattle.std.proofs.lemmas.List.{length-append, length-map}
use Rattle.slot_core.specs.declared.TheConstants.{TIME_LIMIT}
use Rattle.slot_core.specs.declared.jobs.Job.{Job}
use Rattle.slot_core.specs.Runs.Choice.{choice}
use Rattle.slot_core.specs.Keeping.Executives.{Executive, StandsForSome}
use Rattle.slot_core.specs.Offline.Keys.{same_key}
use Rattle.slot_core.specs.Keeping.Kept.{AreApart}
use Rattle.slot_core.specs.Runs.Matches.{HaveSameItems}
use Rattle.slot_core.specs.Offline.OfflineJobs.{cycle_jobs, later_job}
use Rattle.slot_core.specs.Keeping.Plans.{IsPlan}
use Rattle.slot_core.specs.Runs.Rising.{last_point}
use Rattle.slot_core.specs.Claims.Safety.{after_slot}
use Rattle.slot_core.specs.Runs.Scenes.{horizon}
use Rattle.slot_core.specs.Runs.Spans.{spans_between, spans_of}
use Rattle.slot_facts.proofs.Lists.ApartKeys.{same_key-itself}
use Rattle.slot_facts.proofs.Lists.Members.{Has}
use Rattle.slot_facts.proofs.Lists.SameItems.{counted, same-append}
use Rattle.slot_facts.proofs.Plans.FirstSpans.{length-spans}
use Rattle.slot_facts.proofs.Plans.Items.{plan_cycle-bounds}
use Rattle.spare_capacity.specs.Recurrence.{last_end}
use Rattle.scene_steps.proofs.Facts.ProperScenes.{length-same_items, proper_scene}
use Rattle.scene_steps.proofs.Facts.Turns.{next_cycle-apart}
use Rattle.scene_steps.proofs.Rows.NextRows.{last_end-from_any}
use Rattle.scene_steps.proofs.Slots.NewParts.{cycle_jobs-same}
use Rattle.scene_steps.proofs.Spans.Proper.{horizon-at_least, horizon-at_most}
use Rattle.interval_build.proofs.SpansOfCycle.{ArePlanSpans-from_plan}
use Rattle.scene_steps.proofs.Spans.Turns.{few_plan_spans, turn-horizon}

-- a job of the list is counted by its key
pub own_key-counted : (jobs : List Job) (job : Job) → Has jobs job → 1 ≤ count_by (λ (j : Job). same_key j.key job.key) jobs
own_key-counted jobs job at =
    counted (λ (j : Job). same_key j.key job.key) jobs job at (same_key-itself job.key job.key refl)

-- where the keys of jobs are apart, so are those of jobs with the same items
pub AreApart-same : (xs ys : List Job) → HaveSameItems xs ys → AreApart ys → AreApart xs
AreApart-same xs ys same apart = λ key.
    omega (arith, same (λ (j : Job). cond (same_key j.key key) 1 0), apart key)

-- the plan's spans fit a table for three cycles and one span more
pub next_cycle-free : (exec : Executive) (jobs : List Job) → IsPlan exec.plan → StandsForSome exec → (exec.scene.time + 1) % exec.plan.cycle ≡ 0 → length (spans_of exec.plan.cycle (record exec.scene { jobs = jobs })) + length exec.plan.spans ≤ 3 * exec.plan.cycle + 1
next_cycle-free exec jobs plan stands turns =
    let t = exec.scene.time in
    let cycle = exec.plan.cycle in
    let points = (proper_scene exec plan stands).few_points in
    let reach = turn-horizon cycle t (plan_cycle-bounds exec.plan plan).0 turns in
    omega (arith, length-spans jobs (horizon cycle t) t exec.scene.points, points, reach, few_plan_spans exec.plan plan)

-- where it is early both end near
pub next_cycle-near : (exec : Executive) (jobs : List Job) → IsPlan exec.plan → StandsForSome exec → exec.scene.time ≤ TIME_LIMIT → last_end 0 (spans_of exec.plan.cycle (record exec.scene { jobs = jobs })) + last_end 0 exec.plan.spans ≤ 2 ^ 60
next_cycle-near exec jobs plan stands early =
    let t = exec.scene.time in
    let bounds = plan_cycle-bounds exec.plan plan in
    let last = (proper_scene exec plan stands).last in
    let past : t < last_point t exec.scene.points = omega (arith, last, horizon-at_least exec.plan.cycle t bounds.0) in
    let ending = subst (λ end. last_end 0 (spans_between jobs end t exec.scene.points) ≡ last_point t exec.scene.points) last (last_end-from_any jobs 0 t exec.scene.points past) in
    omega (arith, ending, last, (ArePlanSpans-from_plan exec.plan plan).1, horizon-at_most exec.plan.cycle t, bounds)

-- the jobs of the next cycle stand beside those that the choice leaves, each with a key of its own
pub next_jobs-apart : (exec : Executive) (jobs : List Job) → IsPlan exec.plan → StandsForSome exec → (exec.scene.time + 1) % exec.plan.cycle ≡ 0 → HaveSameItems jobs (after_slot (choice exec.plan.tasks.sporadics exec.plan.cycle exec.scene) exec.scene.jobs) → let more = map (later_job exec.plan.tasks exec.plan.cycle ((exec.scene.time + 1) / exec.plan.cycle + 2)) exec.plan.jobs in AreApart (jobs ++ more) × (length jobs + length exec.plan.jobs ≤ 3 * exec.plan.cycle)
next_jobs-apart exec jobs plan stands turns same =
    let set = exec.plan.tasks in
    let cycle = exec.plan.cycle in
    let n : ℕ = (exec.scene.time + 1) / cycle + 2 in
    let after = after_slot (choice set.sporadics cycle exec.scene) exec.scene.jobs in
    let more = map (later_job set cycle n) exec.plan.jobs in
    let all = same-append jobs after more (cycle_jobs set cycle n) same (cycle_jobs-same exec.plan n plan) in
    let fits = next_cycle-apart exec plan stands turns in (
      AreApart-same (jobs ++ more) (after ++ cycle_jobs set cycle n) all fits.0,
      omega (arith, length-same_items (jobs ++ more) (after ++ cycle_jobs set cycle n) all, length-append jobs more, length-map exec.plan.jobs (later_job set cycle n), fits.1),
    )
