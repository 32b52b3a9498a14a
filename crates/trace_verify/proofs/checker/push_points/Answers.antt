use Rattle.std.proofs.Common.{◌≤◌, pos, get_or, arith}
use Rattle.slot_core.specs.declared.TheConstants.{SLOT_LIMIT}
use Rattle.slot_core.specs.declared.jobs.Span.{Span}
use Rattle.slot_facts.proofs.Plans.Items.{later_end-fits, plan_cycle-bounds, plan_end-near}
use Rattle.trace_verify.proofs.checker.push_points.Goals as goal

pub overflow_mul-by : goal.overflow_mul-by
overflow_mul-by c =
    let short : c.from.result ≤ SLOT_LIMIT = omega (arith, c.from.ensures, c.cycle.ensures.cycle, plan_cycle-bounds c.args.plan.now c.cycle.ensures.plan) in
    let low : 0 ≤ SLOT_LIMIT = omega arith in
    omega (arith, later_end-fits 0 c.args.n c.from.result low c.requires short)

pub overflow_add-span : goal.overflow_add-span
overflow_add-span c =
    let short : c.from.result ≤ SLOT_LIMIT = omega (arith, c.from.ensures, c.cycle.ensures.cycle, plan_cycle-bounds c.args.plan.now c.cycle.ensures.plan) in
    let none : Span = record { start = 0; end = 0; work = 0; spare = pos 0 } in
    let spans = c.spans-span-items.result.now in
    let i = c.loop-span.span-index in
    let near = plan_end-near c.args.plan.now spans i none c.spans-span-items.ensures.plan c.spans-span-items.ensures.spans c.loop-span-test.true in
    omega (arith, later_end-fits (get_or spans i none).end c.args.n c.from.result near c.requires short)
