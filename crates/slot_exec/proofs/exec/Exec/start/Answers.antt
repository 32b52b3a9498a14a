-- The parts are those of the plan before the first slot.
use Rattle.std.proofs.Common.{◌≡◌, List, length, map, refl, ap, subst, sym, ◌∙◌, arith}
use Rattle.circular_buffer.specs.Buffer.{Buffer}
use Rattle.slot_core.specs.declared.jobs.SoftJob.{SoftJob}
use Rattle.slot_core.specs.declared.jobs.Span.{Span}
use Rattle.slot_core.specs.declared.tasks.Sporadic.{Sporadic}
use Rattle.slot_core.specs.declared.tasks.TaskSet.{TaskSet}
use Rattle.sporadic_reserve.specs.Reserves.{without_name, Reserved}
use Rattle.interval_row.specs.Changes.{copies_of}
use Rattle.spare_capacity.specs.PlanSpans.{ArePlanSpans}
use Rattle.scene_steps.proofs.Spans.Turns.{copies-fit}
use Rattle.scene_steps.proofs.Starts.FirstParts.{StandsFor-start}
use Rattle.slot_exec.specs.Parts.{executive, span_room}
use Rattle.slot_exec.proofs.FirstExecutives.{IsExecutive-first, IsFirst-parts}
use Rattle.slot_exec.proofs.exec.Exec.start.Goals as goal

pub overflow_mul-cycle : goal.overflow_mul-cycle
overflow_mul-cycle g c =
    omega (arith, c.cycle-cycle.ensures.cycle, copies-fit c.args.plan c.cycle-cycle.ensures.plan)

pub overflow_add-cycle : goal.overflow_add-cycle
overflow_add-cycle g c =
    omega (arith, c.cycle-cycle.ensures.cycle, copies-fit c.args.plan c.cycle-cycle.ensures.plan)

pub with_room-requires-clause-plan : goal.with_room-requires-clause-plan
with_room-requires-clause-plan g c =
    subst ArePlanSpans (sym c.spans.ensures.spans) c.spans.ensures.proper

pub with_room-requires-clause-fits : goal.with_room-requires-clause-fits
with_room-requires-clause-fits g c =
    omega (arith, c.cycle-cycle.ensures.cycle, ap length c.spans.ensures.spans, copies-fit c.args.plan c.cycle-cycle.ensures.plan)

pub with_room-requires-clause-few : goal.with_room-requires-clause-few
with_room-requires-clause-few g c =
    omega (arith, c.cycle-cycle.ensures.cycle, copies-fit c.args.plan c.cycle-cycle.ensures.plan)

pub invariant_of-result : goal.invariant_of-result
invariant_of-result g c =
    let plan = c.args.plan in
    let table = c.in_ok-table.table in
    let rows = g.T.SpareTable.spans table in
    let whole = c.cycle-cycle.ensures in
    let copies = subst (λ (xs : List Span). rows ≡ copies_of xs 3) c.spans.ensures.spans c.in_ok-table.ensures.spans in
    let tasks = ap (λ (r : Reserved). r.sporadics) c.new-reserve.ensures ∙ ap (map without_name) c.sporadics.ensures.sporadics in
    let nexts = ap (λ (r : Reserved). r.nexts) c.new-reserve.ensures ∙ ap (map (λ (s : Sporadic). 0)) c.sporadics.ensures.sporadics in
    let most = ap (λ (b : Buffer SoftJob). b.capacity) c.in_ok-soft.ensures ∙ ap (λ (t : TaskSet). t.soft_limit) c.tasks.ensures.tasks in
    let soft = ap (λ (b : Buffer SoftJob). b.items) c.in_ok-soft.ensures in
    let limit = c.in_ok-table.ensures.room ∙ ap span_room whole.cycle in
    let exec = executive plan (g.T.SpareTable.time table) rows c.in_ok-queue.queue.jobs c.new-reserve.result.nexts c.in_ok-soft.soft.items 0 in
    let first = IsFirst-parts plan (g.T.SpareTable.time table) rows c.in_ok-queue.queue.jobs c.new-reserve.result.nexts c.in_ok-soft.soft.items c.in_ok-table.ensures.time copies c.in_ok-queue.ensures.jobs nexts soft in
    IsExecutive-first exec rows c.new-reserve.result.sporadics (g.T.SpareTable.limit table) c.in_ok-queue.queue.capacity c.in_ok-soft.soft.capacity whole.plan first copies tasks limit c.in_ok-queue.ensures.capacity most

pub returns : goal.returns
returns g c =
    let plan = c.args.plan in
    let table = c.in_ok-table.table in
    let rows = g.T.SpareTable.spans table in
    let copies = subst (λ (xs : List Span). rows ≡ copies_of xs 3) c.spans.ensures.spans c.in_ok-table.ensures.spans in
    let nexts = ap (λ (r : Reserved). r.nexts) c.new-reserve.ensures ∙ ap (map (λ (s : Sporadic). 0)) c.sporadics.ensures.sporadics in
    let soft = ap (λ (b : Buffer SoftJob). b.items) c.in_ok-soft.ensures in
    let exec = executive plan (g.T.SpareTable.time table) rows c.in_ok-queue.queue.jobs c.new-reserve.result.nexts c.in_ok-soft.soft.items 0 in
    let first = IsFirst-parts plan (g.T.SpareTable.time table) rows c.in_ok-queue.queue.jobs c.new-reserve.result.nexts c.in_ok-soft.soft.items c.in_ok-table.ensures.time copies c.in_ok-queue.ensures.jobs nexts soft in
    let stands = StandsFor-start exec c.cycle-cycle.ensures.plan first in
    record {
      plan = refl;
      stands = stands.0;
      started = stands.1;
    }
