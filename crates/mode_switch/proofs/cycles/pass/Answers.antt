-- The queue is empty where a cycle ends, so the next one fits.
use Rattle.std.proofs.Common.{◌/◌, ◌%◌, ap, sym, ◌∙◌, arith}
use Rattle.slot_facts.proofs.Plans.Items.{plan_cycle-bounds}
use Rattle.scene_steps.proofs.Starts.FirstJobs.{plan_jobs-few}
use Rattle.mode_switch.proofs.CycleQueues.{cycle-apart}
use Rattle.mode_switch.proofs.cycles.pass.Goals as goal

pub nonzero_rem-passed : goal.nonzero_rem-passed
nonzero_rem-passed g c =
    omega (arith, c.from-cycle.ensures, c.cycle.ensures.cycle, plan_cycle-bounds c.args.plan.now c.cycle.ensures.plan)

pub nonzero_div-passed : goal.nonzero_div-passed
nonzero_div-passed g c =
    omega (arith, c.from-cycle.ensures, c.cycle.ensures.cycle, plan_cycle-bounds c.args.plan.now c.cycle.ensures.plan)

pub insert_cycle-requires-clause-free : goal.insert_cycle-requires-clause-free
insert_cycle-requires-clause-free g c =
    let whole = c.from-cycle.ensures ∙ c.cycle.ensures.cycle in
    let none = c.requires.none (sym (ap (λ n. c.args.passed % n) whole) ∙ c.if-passed-cycle-eq0.true) in
    omega (arith, none, c.requires.room, plan_jobs-few c.args.plan.now c.cycle.ensures.plan)

pub insert_cycle-requires-clause-apart : goal.insert_cycle-requires-clause-apart
insert_cycle-requires-clause-apart g c =
    let whole = c.from-cycle.ensures ∙ c.cycle.ensures.cycle in
    let none = c.requires.none (sym (ap (λ n. c.args.passed % n) whole) ∙ c.if-passed-cycle-eq0.true) in
    cycle-apart c.args.plan.now (c.args.passed / c.from-cycle.result) c.args.queue.now.jobs c.cycle.ensures.plan none
