use Rattle.std.proofs.Common.{arith}
use Rattle.slot_facts.proofs.Offline.Jobs.{cycle-positive}
use Rattle.run_steps.proofs.whole_cycles.Goals as goal

pub nonzero_rem-slots : goal.nonzero_rem-slots
nonzero_rem-slots c =
    let plan = c.args.plan.now in
    omega (arith, c.cycle-cycle.ensures.cycle, c.cycle-cycle.ensures.plan.cycle, cycle-positive plan.tasks c.cycle-cycle.ensures.plan.sound)
