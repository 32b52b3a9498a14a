-- Three cycles of jobs fit a queue for three cycles.
use Rattle.std.proofs.Common.{arith}
use Rattle.slot_facts.proofs.Plans.Items.{plan_cycle-bounds}
use Rattle.scene_steps.proofs.Starts.FirstJobs.{first_cycles-apart, first_cycles-more, first_cycles-room, plan_jobs-few}
use Rattle.slot_exec.proofs.cycles.insert_first.Goals as goal

pub overflow_mul-cycle : goal.overflow_mul-cycle
overflow_mul-cycle g c =
    omega (arith, c.cycle.ensures.cycle, plan_cycle-bounds c.args.plan.now c.cycle.ensures.plan)

pub overflow_mul-jobs : goal.overflow_mul-jobs
overflow_mul-jobs g c =
    omega (arith, plan_jobs-few c.args.plan.now c.cycle.ensures.plan, plan_cycle-bounds c.args.plan.now c.cycle.ensures.plan)

pub with_listed-requires-clause-some : goal.with_listed-requires-clause-some
with_listed-requires-clause-some g c =
    omega (arith, c.cycle.ensures.cycle, plan_cycle-bounds c.args.plan.now c.cycle.ensures.plan)

pub with_listed-requires-clause-few : goal.with_listed-requires-clause-few
with_listed-requires-clause-few g c =
    omega (arith, c.cycle.ensures.cycle, plan_cycle-bounds c.args.plan.now c.cycle.ensures.plan)

pub insert_cycle-requires-clause-free : goal.insert_cycle-requires-clause-free
insert_cycle-requires-clause-free g c =
    omega (arith, c.loop-n.invariant.capacity, first_cycles-room c.args.plan.now c.loop-n.n c.loop-n.queue.jobs c.cycle.ensures.plan c.loop-n-test.true c.loop-n.invariant.jobs)

pub insert_cycle-requires-clause-apart : goal.insert_cycle-requires-clause-apart
insert_cycle-requires-clause-apart g c =
    first_cycles-apart c.args.plan.now c.loop-n.n c.loop-n.queue.jobs c.cycle.ensures.plan c.loop-n.invariant.jobs

pub loop-n-preserved : goal.loop-n-preserved
loop-n-preserved g c = record {
  jobs = first_cycles-more c.args.plan.now c.loop-n.n c.loop-n.queue.jobs c.insert_cycle.new.queue.jobs c.loop-n.invariant.jobs c.insert_cycle.ensures.jobs;
  capacity = omega (arith, c.insert_cycle.ensures.capacity, c.loop-n.invariant.capacity);
}
