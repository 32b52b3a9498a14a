-- Where a cycle ends, the plan's spans fit behind those that are left.
use Rattle.std.proofs.Common.{◌≡◌, ℕ, suc, ◌+◌, ◌*◌, ◌%◌, ◌^◌, ◌<◌, ◌≤◌, List, [], ◌∷◌, filter, length, subst, ◌∙◌, arith}
use Rattle.std.specs.Prelude.{nat_lt}
use Rattle.slot_core.specs.declared.TheConstants.{TIME_LIMIT}
use Rattle.slot_core.specs.declared.jobs.Job.{Job}
use Rattle.slot_core.specs.declared.jobs.Span.{Span}
use Rattle.slot_core.specs.Keeping.Plans.{PlanParts, IsPlan}
use Rattle.slot_core.specs.Runs.Rising.{last_point}
use Rattle.slot_core.specs.Runs.Scenes.{Scene, horizon}
use Rattle.slot_core.specs.Runs.Spans.{spans_between}
use Rattle.slot_facts.proofs.Plans.FirstSpans.{length-spans}
use Rattle.slot_facts.proofs.Plans.Horizons.{turn, inside, next_slot}
use Rattle.slot_facts.proofs.Plans.Items.{plan_cycle-bounds}
use Rattle.spare_capacity.specs.Recurrence.{last_end, FollowOn}
use Rattle.spare_capacity.specs.PlanSpans.{AreProper}
use Rattle.interval_build.proofs.SpansOfCycle.{ArePlanSpans-from_plan, last_end-between}
use Rattle.scene_steps.specs.Scenes.{IsProperScene}
use Rattle.scene_steps.proofs.Spans.Points.{last_point-later, length-later}
use Rattle.scene_steps.proofs.Spans.Proper.{horizon-at_least, horizon-at_most}

-- proper spans that follow on are at most as many as slots
length-consecutive : (start : ℕ) (spans : List Span) → FollowOn start spans → AreProper spans → start + length spans ≤ last_end start spans
length-consecutive start [] follow proper = omega arith
length-consecutive start (s ∷ ss) follow proper =
    omega (arith, follow.0, proper.0, length-consecutive s.end ss follow.4 proper.1)

-- a plan's spans are at most as many as slots in its cycle
pub few_plan_spans : (plan : PlanParts) → IsPlan plan → length plan.spans ≤ plan.cycle
few_plan_spans plan is_plan =
    let spans = ArePlanSpans-from_plan plan is_plan in
    omega (arith, spans.1, length-consecutive 0 plan.spans spans.0.consecutive spans.0.proper)

-- three copies of them fit a table of three cycles
pub copies-fit : (plan : PlanParts) → IsPlan plan → (3 * length plan.spans ≤ 3 * plan.cycle + 1) × (3 * plan.cycle + 1 ≤ 2 ^ 20)
copies-fit plan is_plan =
    (omega (arith, few_plan_spans plan is_plan), omega (arith, plan_cycle-bounds plan is_plan))

-- where the next slot starts a cycle, the horizon is two cycles from there
pub turn-horizon : (cycle t : ℕ) → 1 ≤ cycle → (t + 1) % cycle ≡ 0 → horizon cycle t ≡ t + 1 + 2 * cycle
turn-horizon cycle t some turns =
    let next : t + 1 ≡ suc t = omega arith in
    let starts : suc t % cycle ≡ 0 = subst (λ n. n % cycle ≡ 0) next turns in
    elim (next_slot t cycle some) [
      | turn even later whole ↦ omega arith
      | inside odd same ↦ absurd (odd starts)
    ]

-- so the points after it are at most two cycles
pub few_points-turn : (cycle : ℕ) (scene : Scene) → 1 ≤ cycle → IsProperScene cycle scene → (scene.time + 1) % cycle ≡ 0 → length (filter (nat_lt (scene.time + 1)) scene.points) ≤ 2 * cycle
few_points-turn cycle scene some proper turns =
    omega (arith, length-later (scene.time + 1) scene.time scene.points proper.rising, proper.last, turn-horizon cycle scene.time some turns)

-- and the plan's spans fit behind those between them
pub append-fits : (plan : PlanParts) (scene : Scene) (jobs : List Job) (end : ℕ) → IsPlan plan → IsProperScene plan.cycle scene → (scene.time + 1) % plan.cycle ≡ 0 → length (spans_between jobs end (scene.time + 1) (filter (nat_lt (scene.time + 1)) scene.points)) + length plan.spans ≤ 3 * plan.cycle
append-fits plan scene jobs end is_plan proper turns =
    let later = filter (nat_lt (scene.time + 1)) scene.points in
    let few = few_points-turn plan.cycle scene (plan_cycle-bounds plan is_plan).0 proper turns in
    omega (arith, length-spans jobs end (scene.time + 1) later, few, few_plan_spans plan is_plan)

-- a slot later the spans end where they did
pub last_end-later : (cycle : ℕ) (scene : Scene) (jobs : List Job) (end : ℕ) → 1 ≤ cycle → IsProperScene cycle scene → last_end (scene.time + 1) (spans_between jobs end (scene.time + 1) (filter (nat_lt (scene.time + 1)) scene.points)) ≡ horizon cycle scene.time
last_end-later cycle scene jobs end some proper =
    let far : scene.time + 1 < last_point scene.time scene.points = omega (arith, proper.last, horizon-at_least cycle scene.time some) in
    last_end-between jobs end (scene.time + 1) (filter (nat_lt (scene.time + 1)) scene.points) ∙ last_point-later (scene.time + 1) scene.time scene.points proper.rising (omega arith) far ∙ proper.last

-- and with the plan's spans behind them they are near
pub append-near : (plan : PlanParts) (scene : Scene) (jobs : List Job) (end : ℕ) → IsPlan plan → IsProperScene plan.cycle scene → scene.time ≤ TIME_LIMIT → last_end (scene.time + 1) (spans_between jobs end (scene.time + 1) (filter (nat_lt (scene.time + 1)) scene.points)) + last_end 0 plan.spans ≤ 2 ^ 60
append-near plan scene jobs end is_plan proper early =
    let cycle = plan_cycle-bounds plan is_plan in
    let spans = ArePlanSpans-from_plan plan is_plan in
    omega (arith, last_end-later plan.cycle scene jobs end cycle.0 proper, spans.1, horizon-at_most plan.cycle scene.time, cycle)
