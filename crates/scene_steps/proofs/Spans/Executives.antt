-- What the spans of an executive's scene are like, and that the calls of its table are in order.
use Rattle.std.proofs.Common.{◌≡◌, ℕ, ◌+◌, ◌*◌, ◌%◌, ◌^◌, ◌<◌, ◌≤◌, pos, ◌≤ℤ◌, List, filter, length, Some, arith}
use Rattle.std.specs.Prelude.{IsSomeAnd, nat_lt}
use Rattle.std.specs.List.{AllByRecursion}
use Rattle.slot_core.specs.declared.TheConstants.{HORIZON_LIMIT, OFFER_LIMIT, TIME_LIMIT}
use Rattle.slot_core.specs.declared.jobs.Job.{Job}
use Rattle.slot_core.specs.declared.jobs.Span.{Span}
use Rattle.slot_core.specs.Runs.Demand.{work_by}
use Rattle.slot_core.specs.Keeping.Executives.{Executive, StandsForSome}
use Rattle.slot_core.specs.Keeping.Plans.{IsPlan}
use Rattle.slot_core.specs.Runs.Spans.{spans_between, spans_of}
use Rattle.slot_facts.proofs.Legal.Executives.{every_executive_is_kept}
use Rattle.slot_facts.proofs.Lists.Members.{Contains-from_Has, Has}
use Rattle.slot_facts.proofs.Plans.Items.{plan_cycle-bounds}
use Rattle.spare_capacity.specs.Laws.{work_until}
use Rattle.spare_capacity.specs.Recurrence.{first_spare, last_end, FollowOn}
use Rattle.interval_row.specs.Changes.{span_ending}
use Rattle.spare_capacity.specs.PlanSpans.{AreProper}
use Rattle.scene_steps.specs.Steps.{with_point}
use Rattle.slot_core.specs.Runs.Scenes.{horizon}
use Rattle.scene_steps.proofs.Spans.MorePoints.{charge-with_point}
use Rattle.scene_steps.proofs.Spans.Proper.{AreProper-scene, charge-proper, deadline-by_end, few_spans-proper, first_spare-proper, FollowOn-scene, work_at-proper, horizon-at_least, last_end-near, last_end-proper, next_slot-before_end, span_works-proper, give_back-proper, work_until-proper}
use Rattle.scene_steps.proofs.Spans.Turns.{append-fits, append-near}
use Rattle.scene_steps.proofs.Facts.ProperScenes.{proper_scene}

-- the scene of each executive is proper

-- each work is at most three cycles
pub span_works : (exec : Executive) → IsPlan exec.plan → StandsForSome exec → AllByRecursion (λ (s : Span). s.work ≤ 3 * exec.plan.cycle) (spans_of exec.plan.cycle exec.scene)
span_works exec plan stands =
    span_works-proper exec.plan.cycle exec.scene (proper_scene exec plan stands)

-- each has its end above its start
pub AreProper-spans : (exec : Executive) → IsPlan exec.plan → StandsForSome exec → AreProper (spans_of exec.plan.cycle exec.scene)
AreProper-spans exec plan stands =
    AreProper-scene exec.plan.cycle exec.scene (proper_scene exec plan stands)

-- they follow on from the time
pub FollowOn-spans : (exec : Executive) → IsPlan exec.plan → StandsForSome exec → FollowOn exec.scene.time (spans_of exec.plan.cycle exec.scene)
FollowOn-spans exec plan stands =
    FollowOn-scene exec.plan.cycle exec.scene (plan_cycle-bounds exec.plan plan).1 (proper_scene exec plan stands)

-- a span ends at the deadline of each job, with a work of at least what the job has left
pub work_at-deadline : (exec : Executive) (job : Job) → IsPlan exec.plan → StandsForSome exec → Has exec.scene.jobs job → (s : Span) × (span_ending job.dl (spans_of exec.plan.cycle exec.scene) ≡ Some s) × (job.left ≤ s.work)
work_at-deadline exec job plan stands at =
    work_at-proper exec.plan.cycle exec.scene job (proper_scene exec plan stands) at

-- so all that is left may be given back there
pub give_back-left : (exec : Executive) (job : Job) → IsPlan exec.plan → StandsForSome exec → Has exec.scene.jobs job → IsSomeAnd (span_ending job.dl (spans_of exec.plan.cycle exec.scene)) (λ (s : Span). job.left ≤ s.work)
give_back-left exec job plan stands at =
    give_back-proper exec.plan.cycle exec.scene job job.left (proper_scene exec plan stands) at (omega arith)

-- and one slot of it
pub give_back-slot : (exec : Executive) (job : Job) → IsPlan exec.plan → StandsForSome exec → Has exec.scene.jobs job → IsSomeAnd (span_ending job.dl (spans_of exec.plan.cycle exec.scene)) (λ (s : Span). 1 ≤ s.work)
give_back-slot exec job plan stands at =
    let kept = every_executive_is_kept exec plan stands in
    let some = (kept.bounds.left job (Contains-from_Has exec.scene.jobs job at)).1 in
    give_back-proper exec.plan.cycle exec.scene job 1 (proper_scene exec plan stands) at some

-- an offer may be charged at each point
pub charge-point : (exec : Executive) (deadline slots : ℕ) → IsPlan exec.plan → StandsForSome exec → Has exec.scene.points deadline → slots ≤ OFFER_LIMIT → IsSomeAnd (span_ending deadline (spans_of exec.plan.cycle exec.scene)) (λ (s : Span). s.work + slots ≤ 2 ^ 40)
charge-point exec deadline slots plan stands at few =
    charge-proper exec.plan.cycle exec.scene deadline slots (plan_cycle-bounds exec.plan plan).1 (proper_scene exec plan stands) at few

-- and at its deadline, once that is a point
pub charge-deadline : (exec : Executive) (within slots : ℕ) → IsPlan exec.plan → StandsForSome exec → 1 ≤ within → within ≤ exec.plan.cycle → slots ≤ OFFER_LIMIT → IsSomeAnd (span_ending (exec.scene.time + within) (spans_of exec.plan.cycle (record exec.scene { points = with_point (exec.scene.time + within) exec.scene.points }))) (λ (s : Span). s.work + slots ≤ 2 ^ 40)
charge-deadline exec within slots plan stands some near few =
    let cycle = plan_cycle-bounds exec.plan plan in
    let reach : exec.scene.time + within ≤ horizon exec.plan.cycle exec.scene.time = omega (arith, horizon-at_least exec.plan.cycle exec.scene.time cycle.0) in
    charge-with_point exec.plan.cycle exec.scene (exec.scene.time + within) slots cycle.1 (proper_scene exec plan stands) (omega arith) reach few

-- the first capacity is at least 0
pub first_spare-positive : (exec : Executive) → IsPlan exec.plan → StandsForSome exec → pos 0 ≤ℤ first_spare (spans_of exec.plan.cycle exec.scene)
first_spare-positive exec plan stands =
    first_spare-proper exec.plan.tasks exec.plan.cycle exec.scene (proper_scene exec plan stands) (every_executive_is_kept exec plan stands).bounds

-- the works of the spans that end by a time are the work due by it
pub work_until-spans : (exec : Executive) (x : ℕ) → IsPlan exec.plan → StandsForSome exec → work_until (spans_of exec.plan.cycle exec.scene) x ≡ work_by exec.scene.jobs x
work_until-spans exec x plan stands =
    work_until-proper exec.plan.cycle exec.scene x (proper_scene exec plan stands)

-- the spans of any jobs between the points end at the horizon
pub last_end-spans : (exec : Executive) (jobs : List Job) (end : ℕ) → IsPlan exec.plan → StandsForSome exec → last_end exec.scene.time (spans_between jobs end exec.scene.time exec.scene.points) ≡ horizon exec.plan.cycle exec.scene.time
last_end-spans exec jobs end plan stands =
    last_end-proper exec.plan.cycle exec.scene jobs end (proper_scene exec plan stands)

-- past the next slot
pub pass_slot-before_end : (exec : Executive) (jobs : List Job) (end : ℕ) → IsPlan exec.plan → StandsForSome exec → exec.scene.time + 1 < last_end exec.scene.time (spans_between jobs end exec.scene.time exec.scene.points)
pass_slot-before_end exec jobs end plan stands =
    next_slot-before_end exec.plan.cycle exec.scene jobs end (plan_cycle-bounds exec.plan plan).0 (proper_scene exec plan stands)

-- and no earlier than a deadline at most a cycle ahead
pub deadline-by_last_end : (exec : Executive) (jobs : List Job) (end within : ℕ) → IsPlan exec.plan → StandsForSome exec → within ≤ exec.plan.cycle → exec.scene.time + within ≤ last_end exec.scene.time (spans_between jobs end exec.scene.time exec.scene.points)
deadline-by_last_end exec jobs end within plan stands near =
    deadline-by_end exec.plan.cycle exec.scene jobs end within (plan_cycle-bounds exec.plan plan).0 (proper_scene exec plan stands) near

-- where it is early they end near
pub last_end-early : (exec : Executive) (jobs : List Job) (end : ℕ) → IsPlan exec.plan → StandsForSome exec → exec.scene.time ≤ TIME_LIMIT → last_end exec.scene.time (spans_between jobs end exec.scene.time exec.scene.points) < HORIZON_LIMIT
last_end-early exec jobs end plan stands early =
    last_end-near exec.plan.cycle exec.scene jobs end (plan_cycle-bounds exec.plan plan).1 (proper_scene exec plan stands) early

-- a table of one span more than slots in three cycles has room for one more
pub split-free : (exec : Executive) (jobs : List Job) (end : ℕ) → IsPlan exec.plan → StandsForSome exec → length (spans_between jobs end exec.scene.time exec.scene.points) < 3 * exec.plan.cycle + 1
split-free exec jobs end plan stands =
    omega (arith, few_spans-proper exec.plan.cycle exec.scene jobs end (proper_scene exec plan stands))

-- and, after a slot that ends a cycle, for the plan's spans behind those that are left
pub append_cycle-free : (exec : Executive) (jobs : List Job) (end : ℕ) → IsPlan exec.plan → StandsForSome exec → (exec.scene.time + 1) % exec.plan.cycle ≡ 0 → length (spans_between jobs end (exec.scene.time + 1) (filter (nat_lt (exec.scene.time + 1)) exec.scene.points)) + length exec.plan.spans ≤ 3 * exec.plan.cycle + 1
append_cycle-free exec jobs end plan stands turns =
    omega (arith, append-fits exec.plan exec.scene jobs end plan (proper_scene exec plan stands) turns)

-- where it is early these end near
pub append_cycle-near : (exec : Executive) (jobs : List Job) (end : ℕ) → IsPlan exec.plan → StandsForSome exec → exec.scene.time ≤ TIME_LIMIT → last_end (exec.scene.time + 1) (spans_between jobs end (exec.scene.time + 1) (filter (nat_lt (exec.scene.time + 1)) exec.scene.points)) + last_end 0 exec.plan.spans ≤ 2 ^ 60
append_cycle-near exec jobs end plan stands early =
    append-near exec.plan exec.scene jobs end plan (proper_scene exec plan stands) early
