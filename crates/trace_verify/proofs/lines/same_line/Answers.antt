-- The cycle of a plan is short enough for the spans.
use Rattle.std.proofs.Common.{◌≤◌}
use Rattle.slot_core.specs.declared.TheConstants.{SLOT_LIMIT}
use Rattle.slot_facts.proofs.Plans.Items.{plan_cycle-bounds}
use Rattle.trace_verify.proofs.lines.same_line.Goals as goal

pub shown-requires-clause-cycle : goal.shown-requires-clause-cycle
shown-requires-clause-cycle c =
    let bounds = plan_cycle-bounds c.args.plan.now c.cycle.ensures.plan in
    let small : c.args.plan.now.cycle ≤ SLOT_LIMIT = bounds.1 in
    rw c.cycle.ensures.cycle small
