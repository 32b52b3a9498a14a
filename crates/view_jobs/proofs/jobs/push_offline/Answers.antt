-- The jobs of the next cycle are appended.
use Rattle.std.proofs.Common.{arith}
use Rattle.slot_facts.proofs.Plans.Items.{plan_cycle-bounds}
use Rattle.view_jobs.specs.Listing.{cycle_listed}
use Rattle.view_jobs.proofs.ListingSteps.{one_more_cycle}
use Rattle.view_jobs.proofs.jobs.push_offline.Goals as goal

pub nonzero_div-slots : goal.nonzero_div-slots
nonzero_div-slots c =
    omega (arith, c.cycle.ensures.cycle, (plan_cycle-bounds c.args.plan.now c.cycle.ensures.plan).0)

pub loop-number-preserved : goal.loop-number-preserved
loop-number-preserved c =
    one_more_cycle (cycle_listed c.args.plan.now c.args.slots) c.args.jobs.now.items c.loop-number.jobs.items c.push_cycle.new.jobs.items c.loop-number.number c.loop-number.invariant c.in_ok-push_cycle.ensures
