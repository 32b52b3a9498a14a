-- A withdrawal: which job it takes, what it frees, and what it leaves.
use Rattle.std.proofs.Common.{◌≡◌, ℕ, ◌≤◌, not, List, Option, Some, None, filter, refl, sym, ap, subst, arith}
use Rattle.std.specs.Prelude.{count_by, IsSomeAnd, ◌↔◌}
use Rattle.std.specs.Option.{option_map_or}
use Rattle.std.proofs.lemmas.Bool.{not_from_false}
use Rattle.std.proofs.lemmas.List.Elements.{All-contains}
use Rattle.slot_core.specs.declared.jobs.Key.TheVariants.{Firm as FirmKey}
use Rattle.slot_core.specs.declared.jobs.Job.{Job}
use Rattle.slot_core.specs.declared.jobs.Span.{Span}
use Rattle.slot_core.specs.declared.tasks.TaskSet.{TaskSet}
use Rattle.slot_core.specs.declared.events.Event.TheVariants.{Withdraw as WithdrawEvent}
use Rattle.slot_core.specs.declared.events.Gone.TheVariants.{Freed, NoJob}
use Rattle.slot_core.specs.declared.events.What.TheVariants.{Withdraw}
use Rattle.slot_core.specs.Keeping.Executives.{Executive, StandsForSome, Does}
use Rattle.slot_core.specs.Offline.Keys.{same_key}
use Rattle.slot_core.specs.Runs.Matches.{IsSameScene}
use Rattle.slot_core.specs.Keeping.Plans.{IsPlan}
use Rattle.slot_core.specs.Runs.Scenes.{Scene}
use Rattle.slot_core.specs.Runs.Spans.{spans_of}
use Rattle.slot_core.specs.Runs.Traces.{arrive}
use Rattle.slot_facts.proofs.Choice.Earliest.{same_from_key}
use Rattle.slot_facts.proofs.Legal.Executives.{every_executive_is_kept}
use Rattle.slot_facts.proofs.Lists.Apart.{count-none}
use Rattle.slot_facts.proofs.Lists.Members.{Has, Contains-from_Has}
use Rattle.slot_facts.proofs.Lists.Tests.{find-Some}
use Rattle.slot_facts.proofs.Sets.Faults.{find-None}
use Rattle.spare_capacity.specs.Recurrence.{filled}
use Rattle.interval_row.specs.Changes.{span_ending, with_less}
use Rattle.scene_steps.specs.Ends.{AreDueInSpans}
use Rattle.scene_steps.specs.Steps.{scene_after}
use Rattle.scene_steps.specs.Withdrawals.{withdrawn, withdrawn_job, jobs_without, spans_without}
use Rattle.scene_steps.proofs.Ends.EndedScenes.{filter_passed, soft-without_guaranteed}
use Rattle.scene_steps.proofs.Ends.EndedSpans.{spans-without}
use Rattle.scene_steps.proofs.Facts.ProperScenes.{proper_scene}
use Rattle.scene_steps.proofs.Same.Events.{Does-from_step}
use Rattle.scene_steps.proofs.Slots.Places.{own_key-counted}

-- the scene after the withdrawal of the firm job of a row
abbrev pub left_by : ℕ → Scene → Scene
left_by firm scene = record scene { jobs = jobs_without firm scene.jobs }

-- the job that is withdrawn is one of the jobs, of the firm key that is named
pub withdrawn_job-listed : (firm : ℕ) (jobs : List Job) (job : Job) → withdrawn_job firm jobs ≡ Some job → Has jobs job × (job.key ≡ FirmKey firm)
withdrawn_job-listed firm jobs job e =
    let found = find-Some (λ (j : Job). same_key j.key (FirmKey firm)) jobs job e in
    (found.0, same_from_key job.key (FirmKey firm) found.1)

-- where there is none, all jobs stay
jobs_without-none : (firm : ℕ) (jobs : List Job) → withdrawn_job firm jobs ≡ None → jobs_without firm jobs ≡ jobs
jobs_without-none firm jobs e =
    let test = λ (j : Job). same_key j.key (FirmKey firm) in
    filter_passed (λ (j : Job). not (test j)) jobs (λ j at. not_from_false (test j) (find-None test jobs j e at))

-- and no job has the key
counted-none : (firm : ℕ) (jobs : List Job) → withdrawn_job firm jobs ≡ None → count_by (λ (j : Job). same_key j.key (FirmKey firm)) jobs ≡ 0
counted-none firm jobs e =
    let test = λ (j : Job). same_key j.key (FirmKey firm) in
    count-none test jobs (λ j at. find-None test jobs j e at)

-- where there is one, its key counts
counted-some : (firm : ℕ) (jobs : List Job) (job : Job) → withdrawn_job firm jobs ≡ Some job → 1 ≤ count_by (λ (j : Job). same_key j.key (FirmKey firm)) jobs
counted-some firm jobs job e =
    let listed = withdrawn_job-listed firm jobs job e in
    subst (λ k. 1 ≤ count_by (λ (j : Job). same_key j.key k) jobs) listed.1 (own_key-counted jobs job listed.0)

-- no job is withdrawn exactly where none has the key
pub NoJob-counted : (firm : ℕ) (jobs : List Job) → (withdrawn firm jobs ≡ NoJob) ↔ (count_by (λ (j : Job). same_key j.key (FirmKey firm)) jobs ≡ 0)
NoJob-counted firm jobs = by_found (withdrawn_job firm jobs) refl
  where
    by_found : (o : Option Job) → withdrawn_job firm jobs ≡ o → (option_map_or (λ (j : Job). Freed j.left) o NoJob ≡ NoJob) ↔ (count_by (λ (j : Job). same_key j.key (FirmKey firm)) jobs ≡ 0)
    by_found None e = (λ _. counted-none firm jobs e, λ _. refl)
    by_found (Some job) e =
        (λ no. absurd (cc no), λ none. absurd (omega (arith, counted-some firm jobs job e, none)))

-- a withdrawal frees at least one slot
pub withdrawn-some : (exec : Executive) (firm n : ℕ) → IsPlan exec.plan → StandsForSome exec → withdrawn firm exec.scene.jobs ≡ Freed n → 1 ≤ n
withdrawn-some exec firm n plan stands frees = by_found (withdrawn_job firm exec.scene.jobs) refl frees
  where
    by_found : (o : Option Job) → withdrawn_job firm exec.scene.jobs ≡ o → option_map_or (λ (j : Job). Freed j.left) o NoJob ≡ Freed n → 1 ≤ n
    by_found None e frees = absurd (cc frees)
    by_found (Some job) e frees =
        let is : job.left ≡ n = cc frees in
        let at = (withdrawn_job-listed firm exec.scene.jobs job e).0 in
        let bounds = (every_executive_is_kept exec plan stands).bounds in
        subst (λ k. 1 ≤ k) is (bounds.left job (Contains-from_Has exec.scene.jobs job at)).1

-- the scene after what a withdrawal tells is what it leaves
scene_after-withdrawn : (set : TaskSet) (cycle row firm : ℕ) (scene : Scene) → scene_after set cycle (Withdraw row firm (withdrawn firm scene.jobs)) scene ≡ left_by firm scene
scene_after-withdrawn set cycle row firm scene = by_found (withdrawn_job firm scene.jobs) refl
  where
    by_found : (o : Option Job) → withdrawn_job firm scene.jobs ≡ o → scene_after set cycle (Withdraw row firm (option_map_or (λ (j : Job). Freed j.left) o NoJob)) scene ≡ left_by firm scene
    by_found None e = ap (λ (js : List Job). record scene { jobs = js }) (sym (jobs_without-none firm scene.jobs e))
    by_found (Some job) e =
        let soft = soft-without_guaranteed (FirmKey firm) scene.soft refl in
        λ i. record scene { jobs = jobs_without firm scene.jobs; soft = soft i }

-- the spans that it leaves are those of the scene that it leaves
pub spans-withdrawn : (exec : Executive) (firm : ℕ) → IsPlan exec.plan → StandsForSome exec → spans_without firm exec.scene.jobs (spans_of exec.plan.cycle exec.scene) ≡ spans_of exec.plan.cycle (left_by firm exec.scene)
spans-withdrawn exec firm plan stands = by_found (withdrawn_job firm exec.scene.jobs) refl
  where
    by_found : (o : Option Job) → withdrawn_job firm exec.scene.jobs ≡ o → option_map_or (λ (j : Job). filled (with_less j.dl j.left (spans_of exec.plan.cycle exec.scene))) o (spans_of exec.plan.cycle exec.scene) ≡ spans_of exec.plan.cycle (left_by firm exec.scene)
    by_found None e =
        ap (λ (js : List Job). spans_of exec.plan.cycle (record exec.scene { jobs = js })) (sym (jobs_without-none firm exec.scene.jobs e))
    by_found (Some job) e =
        let scene = exec.scene in
        let listed = withdrawn_job-listed firm scene.jobs job e in
        let apart = (every_executive_is_kept exec plan stands).bounds.apart in
        subst
        (λ k. filled (with_less job.dl job.left (spans_of exec.plan.cycle scene)) ≡ spans_of exec.plan.cycle (record scene { jobs = filter (λ (j : Job). not (same_key j.key k)) scene.jobs }))
        listed.1
        (spans-without exec.plan.cycle scene job (proper_scene exec plan stands) apart listed.0)

-- all that the job has left may be given back
pub AreDueInSpans-withdrawn : (firm : ℕ) (jobs : List Job) (all : List Span) (job : Job) → AreDueInSpans jobs all → withdrawn_job firm jobs ≡ Some job → IsSomeAnd (span_ending job.dl all) (λ (s : Span). job.left ≤ s.work)
AreDueInSpans-withdrawn firm jobs all job due e =
    let at = (withdrawn_job-listed firm jobs job e).0 in
    All-contains (λ (j : Job). IsSomeAnd (span_ending j.dl all) (λ (s : Span). j.left ≤ s.work)) jobs job due (Contains-from_Has jobs job at)

-- after a withdrawal, an executive with what it leaves of the scene has done what the model does
pub Does-withdraw : (before after : Executive) (row firm : ℕ) → IsPlan before.plan → StandsForSome before → before.last_row ≤ row → after.plan ≡ before.plan → IsSameScene after.scene (left_by firm before.scene) → after.last_row ≡ row → Does before after (arrive row (WithdrawEvent firm)) (Withdraw row firm (withdrawn firm before.scene.jobs))
Does-withdraw before after row firm plan stands later stays same last =
    let step = scene_after-withdrawn before.plan.tasks before.plan.cycle row firm before.scene in
    Does-from_step before after (arrive row (WithdrawEvent firm)) (Withdraw row firm (withdrawn firm before.scene.jobs)) plan stands (later, refl) refl stays (subst (IsSameScene after.scene) (sym step) same) last
