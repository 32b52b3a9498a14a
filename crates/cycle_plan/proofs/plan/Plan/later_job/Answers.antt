use Rattle.std.proofs.Common.{arith}
use Rattle.slot_facts.proofs.Offline.Jobs.{cycle-at_most}
use Rattle.cycle_plan.proofs.plan.Plan.later_job.Goals as goal

pub later_job-requires-clause-cycle : goal.later_job-requires-clause-cycle
later_job-requires-clause-cycle c =
    omega (arith, c.self.invariant.is_plan.cycle, cycle-at_most c.self.inside.tasks c.self.invariant.is_plan.sound)
