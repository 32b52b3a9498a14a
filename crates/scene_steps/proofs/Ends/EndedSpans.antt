-- The spans after an early end: what is left of the spans is the spans of what is left of the scene.
use Rattle.std.proofs.Common.{◌≡◌, ℕ, ◌≤◌, Bool, true, false, not, cond, List, Option, Some, None, filter, refl, subst}
use Rattle.std.specs.Prelude.{Contains, IsSomeAnd}
use Rattle.std.specs.Option.{option_map_or}
use Rattle.std.proofs.lemmas.List.Elements.{All-contains, All-filter, All-from_recursion}
use Rattle.slot_core.specs.declared.jobs.Key.{Key}
use Rattle.slot_core.specs.declared.jobs.Job.{Job}
use Rattle.slot_core.specs.declared.jobs.Span.{Span}
use Rattle.slot_core.specs.Keeping.Executives.{Executive, StandsForSome}
use Rattle.slot_core.specs.Offline.Keys.{is_soft, same_key}
use Rattle.slot_core.specs.Keeping.Kept.{AreApart}
use Rattle.slot_core.specs.Keeping.Plans.{IsPlan}
use Rattle.slot_core.specs.Runs.Scenes.{Scene, horizon}
use Rattle.slot_core.specs.Runs.Spans.{spans_between, spans_of}
use Rattle.slot_facts.proofs.Legal.Executives.{every_executive_is_kept}
use Rattle.slot_facts.proofs.Lists.Members.{Has, Contains-from_Has, AllByRecursion-from_Has}
use Rattle.spare_capacity.specs.Recurrence.{filled}
use Rattle.interval_row.specs.Changes.{span_ending, with_less}
use Rattle.scene_steps.specs.Ends.{ending_job, spans_left, AreDueInSpans}
use Rattle.scene_steps.specs.Scenes.{IsProperScene}
use Rattle.scene_steps.proofs.Ends.EndedScenes.{ended}
use Rattle.scene_steps.proofs.Ends.Started.{ending_job-listed}
use Rattle.scene_steps.proofs.Facts.ProperScenes.{proper_scene}
use Rattle.scene_steps.proofs.Rows.JobWorks.{work_between-without}
use Rattle.scene_steps.proofs.Rows.Works.{spans-less}
use Rattle.scene_steps.proofs.Spans.Executives.{give_back-left}
use Rattle.scene_steps.proofs.Spans.Proper.{point-from_job}

-- with all that one of the jobs has left less at its deadline, the spans are those without it
pub spans-without : (cycle : ℕ) (scene : Scene) (job : Job) → IsProperScene cycle scene → AreApart scene.jobs → Has scene.jobs job → filled (with_less job.dl job.left (spans_of cycle scene)) ≡ spans_of cycle (record scene { jobs = filter (λ (j : Job). not (same_key j.key job.key)) scene.jobs })
spans-without cycle scene job proper apart at =
    let stays = λ (j : Job). not (same_key j.key job.key) in
    let after = filter stays scene.jobs in
    let due = All-filter stays (λ (j : Job). Contains scene.points j.dl) scene.jobs proper.due in
    let point = Contains-from_Has scene.points job.dl (point-from_job cycle scene job proper at) in
    subst
    (λ end. filled (with_less job.dl job.left (spans_between scene.jobs end scene.time scene.points)) ≡ spans_between after end scene.time scene.points)
    proper.last
    (spans-less scene.jobs after scene.time scene.points job.dl job.left proper.rising proper.due due point (work_between-without scene.jobs job apart at))

-- the spans that an early end leaves are those of the scene that it leaves
pub spans-ended : (exec : Executive) (key : Key) → IsPlan exec.plan → StandsForSome exec → (let all = spans_of exec.plan.cycle exec.scene in cond (is_soft key) all (spans_left exec.scene.time key exec.scene.jobs all)) ≡ spans_of exec.plan.cycle (ended key exec.scene)
spans-ended exec key plan stands = by_kind (is_soft key)
  where
    by_job : (o : Option Job) → ending_job exec.scene.time key exec.scene.jobs ≡ o → option_map_or (λ (j : Job). filled (with_less j.dl j.left (spans_of exec.plan.cycle exec.scene))) o (spans_of exec.plan.cycle exec.scene) ≡ spans_of exec.plan.cycle (record exec.scene { jobs = option_map_or (λ (ended : Job). filter (λ (j : Job). not (same_key j.key key)) exec.scene.jobs) o exec.scene.jobs })
    by_job None e = refl
    by_job (Some job) e =
        let scene = exec.scene in
        let listed = ending_job-listed scene.time key scene.jobs job e in
        let apart = (every_executive_is_kept exec plan stands).bounds.apart in
        subst
        (λ k. filled (with_less job.dl job.left (spans_of exec.plan.cycle scene)) ≡ spans_of exec.plan.cycle (record scene { jobs = filter (λ (j : Job). not (same_key j.key k)) scene.jobs }))
        listed.1
        (spans-without exec.plan.cycle scene job (proper_scene exec plan stands) apart listed.0)

    by_kind : (soft : Bool) → cond soft (spans_of exec.plan.cycle exec.scene) (spans_left exec.scene.time key exec.scene.jobs (spans_of exec.plan.cycle exec.scene)) ≡ spans_between (cond soft exec.scene.jobs (option_map_or (λ (ended : Job). filter (λ (j : Job). not (same_key j.key key)) exec.scene.jobs) (ending_job exec.scene.time key exec.scene.jobs) exec.scene.jobs)) (horizon exec.plan.cycle exec.scene.time) exec.scene.time exec.scene.points
    by_kind true = refl
    by_kind false = by_job (ending_job exec.scene.time key exec.scene.jobs) refl

-- all that each job has left is due in the spans at its deadline
pub AreDueInSpans-scene : (exec : Executive) → IsPlan exec.plan → StandsForSome exec → AreDueInSpans exec.scene.jobs (spans_of exec.plan.cycle exec.scene)
AreDueInSpans-scene exec plan stands =
    let Due : Job → Type 0 = λ (j : Job). IsSomeAnd (span_ending j.dl (spans_of exec.plan.cycle exec.scene)) (λ (s : Span). j.left ≤ s.work) in
    All-from_recursion Due exec.scene.jobs (AllByRecursion-from_Has Due exec.scene.jobs (λ j at. give_back-left exec j plan stands at))

-- so all that a job that ends early has left may be given back
pub AreDueInSpans-ending : (time : ℕ) (key : Key) (jobs : List Job) (all : List Span) (job : Job) → AreDueInSpans jobs all → ending_job time key jobs ≡ Some job → IsSomeAnd (span_ending job.dl all) (λ (s : Span). job.left ≤ s.work)
AreDueInSpans-ending time key jobs all job due e =
    let at = (ending_job-listed time key jobs job e).0 in
    All-contains (λ (j : Job). IsSomeAnd (span_ending j.dl all) (λ (s : Span). j.left ≤ s.work)) jobs job due (Contains-from_Has jobs job at)
