-- One cycle of jobs fits a queue for one cycle.
use Rattle.std.proofs.Common.{length, ap, arith}
use Rattle.job_queue.specs.Queues.{QueueParts}
use Rattle.slot_facts.proofs.Plans.Items.{plan_cycle-bounds}
use Rattle.scene_steps.proofs.Starts.FirstJobs.{plan_jobs-few}
use Rattle.mode_switch.proofs.CycleQueues.{cycle-apart}
use Rattle.mode_switch.proofs.cycles.insert_first.Goals as goal

pub with_capacity-requires-clause-some : goal.with_capacity-requires-clause-some
with_capacity-requires-clause-some g c =
    omega (arith, c.cycle.ensures.cycle, plan_cycle-bounds c.args.plan.now c.cycle.ensures.plan)

pub with_capacity-requires-clause-few : goal.with_capacity-requires-clause-few
with_capacity-requires-clause-few g c =
    omega (arith, c.cycle.ensures.cycle, plan_cycle-bounds c.args.plan.now c.cycle.ensures.plan)

pub insert_cycle-requires-clause-free : goal.insert_cycle-requires-clause-free
insert_cycle-requires-clause-free g c =
    omega (
      arith,
      ap (λ (q : QueueParts). length q.jobs) c.in_ok-queue.ensures,
      ap (λ (q : QueueParts). q.capacity) c.in_ok-queue.ensures,
      c.cycle.ensures.cycle,
      plan_jobs-few c.args.plan.now c.cycle.ensures.plan,
    )

pub insert_cycle-requires-clause-apart : goal.insert_cycle-requires-clause-apart
insert_cycle-requires-clause-apart g c =
    cycle-apart c.args.plan.now 0 c.in_ok-queue.queue.jobs c.cycle.ensures.plan (ap (λ (q : QueueParts). length q.jobs) c.in_ok-queue.ensures)
