-- The spans with a job more: those of the scene, cut at its deadline and charged there with its slots.
use Rattle.std.proofs.Common.{◌≡◌, ℕ, ◌+◌, ◌-◌, ◌<◌, ◌≤◌, ◌^◌, List, [], ◌∷◌, ◌++◌, sym, ap, ◌∙◌, subst, arith}
use Rattle.std.specs.Prelude.{All, Contains, IsSomeAnd, sum_by}
use Rattle.std.proofs.lemmas.List.Elements.{All-append, All-from_recursion}
use Rattle.std.proofs.lemmas.List.Sums.{sum_by-append, sum_by-cons}
use Rattle.slot_core.specs.declared.TheConstants.{SLOT_LIMIT}
use Rattle.slot_core.specs.declared.jobs.Job.{Job}
use Rattle.slot_core.specs.declared.jobs.Span.{Span}
use Rattle.slot_core.specs.Runs.Scenes.{Scene, horizon}
use Rattle.slot_core.specs.Runs.Spans.{spans_between, spans_of}
use Rattle.slot_facts.proofs.Lists.Members.{Contains-from_Has}
use Rattle.spare_capacity.specs.Recurrence.{filled}
use Rattle.interval_row.specs.Changes.{cut, span_ending, with_more}
use Rattle.scene_steps.specs.Joins.{spans_with_job}
use Rattle.scene_steps.specs.Rows.{spans, AreDueAmong}
use Rattle.scene_steps.specs.Scenes.{IsProperScene}
use Rattle.scene_steps.specs.Steps.{with_job, with_point}
use Rattle.scene_steps.proofs.Rows.Cuts.{spans-cut}
use Rattle.scene_steps.proofs.Rows.JobWorks.{work_between-append_job}
use Rattle.scene_steps.proofs.Rows.Works.{spans-more}
use Rattle.scene_steps.proofs.Spans.Between.{EndsAt-between, span_ending-small}
use Rattle.scene_steps.proofs.Spans.MorePoints.{proper-with_point}
use Rattle.scene_steps.proofs.Spans.Points.{Has-with_point}
use Rattle.scene_steps.proofs.Spans.Proper.{horizon-at_most}

-- the spans up to the last point of a proper scene are those up to its horizon
spans-to_horizon : (cycle : ℕ) (scene : Scene) (jobs : List Job) → IsProperScene cycle scene → spans jobs scene.time scene.points ≡ spans_between jobs (horizon cycle scene.time) scene.time scene.points
spans-to_horizon cycle scene jobs proper =
    ap (λ end. spans_between jobs end scene.time scene.points) proper.last

-- the spans with one cut are those of the scene with the point more
pub spans-cut_scene : (cycle : ℕ) (scene : Scene) (p : ℕ) → IsProperScene cycle scene → scene.time < p → p ≤ horizon cycle scene.time → filled (cut p (spans_of cycle scene)) ≡ spans_of cycle (record scene { points = with_point p scene.points })
spans-cut_scene cycle scene p proper after within =
    let pointed : Scene = record scene { points = with_point p scene.points } in
    let later = proper-with_point cycle scene p proper after within in
    let cuts = spans-cut scene.jobs scene.time scene.points p proper.rising proper.due after (omega (arith, proper.last)) in
    sym (ap (λ rows. filled (cut p rows)) (spans-to_horizon cycle scene scene.jobs proper)) ∙ cuts ∙ spans-to_horizon cycle pointed scene.jobs later

-- each job, and the one that joins, is due at a point
due-with_job : (cycle : ℕ) (scene : Scene) (job : Job) → IsProperScene cycle scene → scene.time < job.dl → job.dl ≤ horizon cycle scene.time → AreDueAmong (with_point job.dl scene.points) (scene.jobs ++ job ∷ [])
due-with_job cycle scene job proper after within =
    let points = with_point job.dl scene.points in
    let Due : Job → Type 0 = λ (j : Job). Contains points j.dl in
    let own : All Due (job ∷ []) = All-from_recursion Due (job ∷ []) (Contains-from_Has points job.dl (Has-with_point job.dl scene.points), tt) in
    All-append Due scene.jobs (job ∷ []) (proper-with_point cycle scene job.dl proper after within).due own

-- the spans with a job more are those of the scene with it
pub spans-with_job : (cycle : ℕ) (scene : Scene) (job : Job) → IsProperScene cycle scene → scene.time < job.dl → job.dl ≤ horizon cycle scene.time → spans_with_job job (spans_of cycle scene) ≡ spans_of cycle (with_job job scene)
spans-with_job cycle scene job proper after within =
    let points = with_point job.dl scene.points in
    let jobs = scene.jobs ++ job ∷ [] in
    let pointed : Scene = record scene { points = points } in
    let later = proper-with_point cycle scene job.dl proper after within in
    let at = Contains-from_Has points job.dl (Has-with_point job.dl scene.points) in
    let more = spans-more scene.jobs jobs scene.time points job.dl job.left later.rising later.due (due-with_job cycle scene job proper after within) at (work_between-append_job scene.jobs job) in
    ap (λ rows. filled (with_more job.dl job.left rows)) (spans-cut_scene cycle scene job.dl proper after within ∙ sym (spans-to_horizon cycle pointed scene.jobs later))
    ∙ more
    ∙ spans-to_horizon cycle pointed jobs later

-- what all jobs have left, with one more
pub left-with_job : (jobs : List Job) (job : Job) → sum_by (λ (j : Job). j.left) (jobs ++ job ∷ []) ≡ sum_by (λ (j : Job). j.left) jobs + job.left
left-with_job jobs job =
    let left : Job → ℕ = λ (j : Job). j.left in
    omega (arith, sum_by-append left jobs (job ∷ []), sum_by-cons left job [])

-- once it is cut, a span ends at the deadline, and may be charged with the slots of a job with which all that is left fits
pub charge-cut : (cycle : ℕ) (scene : Scene) (job : Job) → cycle ≤ SLOT_LIMIT → IsProperScene cycle scene → scene.time < job.dl → job.dl ≤ horizon cycle scene.time → sum_by (λ (j : Job). j.left) (scene.jobs ++ job ∷ []) ≤ horizon cycle scene.time - scene.time → IsSomeAnd (span_ending job.dl (filled (cut job.dl (spans_of cycle scene)))) (λ (s : Span). s.work + job.left ≤ 2 ^ 40)
charge-cut cycle scene job short proper after within fits =
    let points = with_point job.dl scene.points in
    let pointed : Scene = record scene { points = points } in
    let later = proper-with_point cycle scene job.dl proper after within in
    let there = EndsAt-between scene.jobs (horizon cycle scene.time) scene.time points job.dl later.rising (Has-with_point job.dl scene.points) in
    let small = span_ending-small scene.jobs job.dl (spans_of cycle pointed) job.left (2 ^ 40) there (omega (arith, fits, left-with_job scene.jobs job, horizon-at_most cycle scene.time)) in
    subst (λ rows. IsSomeAnd (span_ending job.dl rows) (λ (s : Span). s.work + job.left ≤ 2 ^ 40)) (sym (spans-cut_scene cycle scene job.dl proper after within)) small
