-- What the spans of a proper scene are like.
use Rattle.std.proofs.Common.{◌≡◌, ℕ, ◌+◌, ◌*◌, ◌/◌, ◌^◌, ◌<◌, ◌≤◌, pos, ◌≤ℤ◌, Bool, true, false, ◌&&◌, cond, List, length, Option, Some, None, div-mul-le_self, refl, ◌∙◌, arith}
use Rattle.std.specs.Prelude.{Contains, IsSomeAnd, nat_le, nat_lt}
use Rattle.std.specs.List.{AllByRecursion}
use Rattle.std.proofs.lemmas.Int.{ints}
use Rattle.std.proofs.lemmas.List.Elements.{All-contains}
use Rattle.std.proofs.lemmas.List.Sums.{sum_by-le-sum_by}
use Rattle.std.proofs.lemmas.Nat.{div-add-mod', mod_below}
use Rattle.slot_core.specs.declared.TheConstants.{HORIZON_LIMIT, OFFER_LIMIT, SLOT_LIMIT, TIME_LIMIT}
use Rattle.slot_core.specs.declared.jobs.Job.{Job}
use Rattle.slot_core.specs.declared.jobs.Span.{Span}
use Rattle.slot_core.specs.declared.tasks.TaskSet.{TaskSet}
use Rattle.slot_core.specs.Runs.Demand.{work_by, work_between}
use Rattle.slot_core.specs.Keeping.Kept.{KeepsBounds}
use Rattle.slot_core.specs.Runs.Scenes.{Scene, horizon}
use Rattle.slot_core.specs.Runs.Spans.{slack, spans_between, spans_of}
use Rattle.slot_facts.proofs.Lists.Members.{Contains-from_Has, Has, Has-from_Contains}
use Rattle.slot_facts.proofs.Plans.FirstSpans.{length-spans}
use Rattle.spare_capacity.specs.Laws.{work_until}
use Rattle.spare_capacity.specs.Recurrence.{first_spare, last_end, FollowOn}
use Rattle.interval_row.specs.Changes.{span_ending}
use Rattle.spare_capacity.specs.PlanSpans.{AreProper}
use Rattle.scene_steps.specs.Scenes.{IsProperScene}
use Rattle.interval_build.proofs.SpansOfCycle.{AreProper-between, first_spare-between, last_end-between}
use Rattle.scene_steps.proofs.Spans.Between.{EndsAt-between, FollowOn-between, span_ending-job, span_ending-small, work_until-points, works-between}

-- the horizon is at most three cycles ahead
pub horizon-at_most : (cycle t : ℕ) → horizon cycle t ≤ t + 3 * cycle
horizon-at_most cycle t = omega (arith, div-mul-le_self t cycle)

-- and more than two
pub horizon-at_least : (cycle t : ℕ) → 1 ≤ cycle → t + 2 * cycle < horizon cycle t
horizon-at_least cycle t some = omega (arith, div-add-mod' t cycle, mod_below t cycle some)

-- where it is early it is near
pub horizon-near : (cycle t : ℕ) → cycle ≤ SLOT_LIMIT → t ≤ TIME_LIMIT → horizon cycle t < HORIZON_LIMIT
horizon-near cycle t short early = omega (arith, horizon-at_most cycle t)

-- each job of a proper scene is due at a point
pub point-from_job : (cycle : ℕ) (scene : Scene) (job : Job) → IsProperScene cycle scene → Has scene.jobs job → Has scene.points job.dl
point-from_job cycle scene job proper at =
    Has-from_Contains scene.points job.dl (All-contains (λ (j : Job). Contains scene.points j.dl) scene.jobs job proper.due (Contains-from_Has scene.jobs job at))

-- the work of each span is at most three cycles
pub span_works-proper : (cycle : ℕ) (scene : Scene) → IsProperScene cycle scene → AllByRecursion (λ (s : Span). s.work ≤ 3 * cycle) (spans_of cycle scene)
span_works-proper cycle scene proper =
    works-between scene.jobs (horizon cycle scene.time) scene.time scene.points (3 * cycle) (omega (arith, proper.left, horizon-at_most cycle scene.time))

-- a span ends at the deadline of each job, and has the slots that the job has left
pub give_back-proper : (cycle : ℕ) (scene : Scene) (job : Job) (slots : ℕ) → IsProperScene cycle scene → Has scene.jobs job → slots ≤ job.left → IsSomeAnd (span_ending job.dl (spans_of cycle scene)) (λ (s : Span). slots ≤ s.work)
give_back-proper cycle scene job slots proper at few =
    let spans = spans_of cycle scene in
    let there = EndsAt-between scene.jobs (horizon cycle scene.time) scene.time scene.points job.dl proper.rising (point-from_job cycle scene job proper at) in
    span_ending-job scene.jobs job.dl spans job slots there at refl few

-- a value that is there, and what holds of it
Some-from_IsSomeAnd : {X : Type 0} (o : Option X) (P : X → Type 0) → IsSomeAnd o P → (x : X) × (o ≡ Some x) × P x
Some-from_IsSomeAnd None P h = absurd h
Some-from_IsSomeAnd (Some x) P h = (x, refl, h)

-- so there is such a span, with a work of at least what the job has left
pub work_at-proper : (cycle : ℕ) (scene : Scene) (job : Job) → IsProperScene cycle scene → Has scene.jobs job → (s : Span) × (span_ending job.dl (spans_of cycle scene) ≡ Some s) × (job.left ≤ s.work)
work_at-proper cycle scene job proper at =
    Some-from_IsSomeAnd (span_ending job.dl (spans_of cycle scene)) (λ (s : Span). job.left ≤ s.work) (give_back-proper cycle scene job job.left proper at (omega arith))

-- a span ends at each point, with room for an offer beside its work
pub charge-proper : (cycle : ℕ) (scene : Scene) (deadline slots : ℕ) → cycle ≤ SLOT_LIMIT → IsProperScene cycle scene → Has scene.points deadline → slots ≤ OFFER_LIMIT → IsSomeAnd (span_ending deadline (spans_of cycle scene)) (λ (s : Span). s.work + slots ≤ 2 ^ 40)
charge-proper cycle scene deadline slots short proper at few =
    let spans = spans_of cycle scene in
    let there = EndsAt-between scene.jobs (horizon cycle scene.time) scene.time scene.points deadline proper.rising at in
    span_ending-small scene.jobs deadline spans slots (2 ^ 40) there (omega (arith, proper.left, horizon-at_most cycle scene.time))

-- the spans of any jobs end at the horizon
pub last_end-proper : (cycle : ℕ) (scene : Scene) (jobs : List Job) (end : ℕ) → IsProperScene cycle scene → last_end scene.time (spans_between jobs end scene.time scene.points) ≡ horizon cycle scene.time
last_end-proper cycle scene jobs end proper =
    last_end-between jobs end scene.time scene.points ∙ proper.last

-- the next slot lies before it
pub next_slot-before_end : (cycle : ℕ) (scene : Scene) (jobs : List Job) (end : ℕ) → 1 ≤ cycle → IsProperScene cycle scene → scene.time + 1 < last_end scene.time (spans_between jobs end scene.time scene.points)
next_slot-before_end cycle scene jobs end some proper =
    omega (arith, last_end-proper cycle scene jobs end proper, horizon-at_least cycle scene.time some)

-- a deadline at most a cycle ahead does not lie past it
pub deadline-by_end : (cycle : ℕ) (scene : Scene) (jobs : List Job) (end within : ℕ) → 1 ≤ cycle → IsProperScene cycle scene → within ≤ cycle → scene.time + within ≤ last_end scene.time (spans_between jobs end scene.time scene.points)
deadline-by_end cycle scene jobs end within some proper near =
    omega (arith, last_end-proper cycle scene jobs end proper, horizon-at_least cycle scene.time some)

-- where it is early they end near
pub last_end-near : (cycle : ℕ) (scene : Scene) (jobs : List Job) (end : ℕ) → cycle ≤ SLOT_LIMIT → IsProperScene cycle scene → scene.time ≤ TIME_LIMIT → last_end scene.time (spans_between jobs end scene.time scene.points) < HORIZON_LIMIT
last_end-near cycle scene jobs end short proper early =
    omega (arith, last_end-proper cycle scene jobs end proper, horizon-near cycle scene.time short early)

-- there are at most as many spans as slots in three cycles
pub few_spans-proper : (cycle : ℕ) (scene : Scene) (jobs : List Job) (end : ℕ) → IsProperScene cycle scene → length (spans_between jobs end scene.time scene.points) ≤ 3 * cycle
few_spans-proper cycle scene jobs end proper =
    omega (arith, length-spans jobs end scene.time scene.points, proper.few_points, horizon-at_most cycle scene.time)

-- the spans have their ends above their starts
pub AreProper-scene : (cycle : ℕ) (scene : Scene) → IsProperScene cycle scene → AreProper (spans_of cycle scene)
AreProper-scene cycle scene proper =
    AreProper-between scene.jobs (horizon cycle scene.time) scene.time scene.points proper.rising

-- they follow on from the time
pub FollowOn-scene : (cycle : ℕ) (scene : Scene) → cycle ≤ SLOT_LIMIT → IsProperScene cycle scene → FollowOn scene.time (spans_of cycle scene)
FollowOn-scene cycle scene short proper =
    let most = horizon-at_most cycle scene.time in
    FollowOn-between scene.jobs (horizon cycle scene.time) scene.time scene.points proper.rising (omega (arith, proper.last, most)) (omega (arith, proper.left, most))

-- the work due by x is not less than that due after s
work_by-between : (jobs : List Job) (s x : ℕ) → work_between jobs s x ≤ work_by jobs x
work_by-between jobs s x =
    sum_by-le-sum_by (λ (j : Job). cond (nat_lt s j.dl && nat_le j.dl x) j.left 0) (λ (j : Job). cond (nat_le j.dl x) j.left 0) jobs (λ j. both-le (nat_lt s j.dl) (nat_le j.dl x) j.left)
  where
    -- a further test leaves no more
    both-le : (a b : Bool) (n : ℕ) → cond (a && b) n 0 ≤ cond b n 0
    both-le true b n = omega arith
    both-le false b n = omega arith

-- where all that is needed fits, the slack from the time is not below 0
slack-kept : (set : TaskSet) (cycle : ℕ) (scene : Scene) (x : ℕ) → KeepsBounds set cycle (scene.time / cycle + 3) scene → scene.time ≤ x → x ≤ horizon cycle scene.time → pos 0 ≤ℤ slack scene.jobs scene.time x
slack-kept set cycle scene x kept low high =
    omega (arith, ints, kept.fits x low high, work_by-between scene.jobs scene.time x)

-- so the first span has a capacity of at least 0
pub first_spare-proper : (set : TaskSet) (cycle : ℕ) (scene : Scene) → IsProperScene cycle scene → KeepsBounds set cycle (scene.time / cycle + 3) scene → pos 0 ≤ℤ first_spare (spans_of cycle scene)
first_spare-proper set cycle scene proper kept =
    first_spare-between scene.jobs (horizon cycle scene.time) scene.time scene.points proper.rising (omega (arith, proper.last)) (λ x low high. slack-kept set cycle scene x kept low high)

-- the works of the spans that end by a time are the work due by it
pub work_until-proper : (cycle : ℕ) (scene : Scene) (x : ℕ) → IsProperScene cycle scene → work_until (spans_of cycle scene) x ≡ work_by scene.jobs x
work_until-proper cycle scene x proper =
    work_until-points scene.jobs (horizon cycle scene.time) scene.time scene.points x proper.rising proper.due
