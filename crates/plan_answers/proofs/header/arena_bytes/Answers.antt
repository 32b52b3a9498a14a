-- The numbers of a plan are small.
use Rattle.std.proofs.Common.{length, ap, arith}
use Rattle.slot_core.specs.declared.tasks.TaskSet.{TaskSet}
use Rattle.slot_facts.proofs.Sets.Ranges.{SetRanges-from_sound}
use Rattle.table_codec.proofs.PlanSizes.{few_jobs, few_spans}
use Rattle.plan_answers.proofs.header.arena_bytes.Goals as goal

pub overflow_mul-result-2 : goal.overflow_mul-result-2
overflow_mul-result-2 c = omega (arith, ap length c.jobs.ensures.jobs, few_jobs c.args.plan.now c.jobs.ensures.plan)

pub overflow_add-result-2 : goal.overflow_add-result-2
overflow_add-result-2 c = omega (arith, ap length c.jobs.ensures.jobs, few_jobs c.args.plan.now c.jobs.ensures.plan)

pub overflow_mul-result-3 : goal.overflow_mul-result-3
overflow_mul-result-3 c =
    omega (arith, ap length c.jobs.ensures.jobs, few_jobs c.args.plan.now c.jobs.ensures.plan, ap length c.spans.ensures.spans, few_spans c.args.plan.now c.spans.ensures.plan)

pub overflow_add-result-3 : goal.overflow_add-result-3
overflow_add-result-3 c =
    omega (arith, ap length c.jobs.ensures.jobs, few_jobs c.args.plan.now c.jobs.ensures.plan, ap length c.spans.ensures.spans, few_spans c.args.plan.now c.spans.ensures.plan)

pub overflow_add-result-4 : goal.overflow_add-result-4
overflow_add-result-4 c =
    let soft = (SetRanges-from_sound c.args.plan.now.tasks c.tasks-tasks.ensures.plan.sound).soft in
    omega (arith, soft.1, ap (λ (set : TaskSet). set.soft_limit) c.tasks-tasks.ensures.tasks, c.from-2.ensures, ap length c.jobs.ensures.jobs, few_jobs c.args.plan.now c.jobs.ensures.plan, ap length c.spans.ensures.spans, few_spans c.args.plan.now c.spans.ensures.plan)

pub overflow_add-result-5 : goal.overflow_add-result-5
overflow_add-result-5 c =
    let soft = (SetRanges-from_sound c.args.plan.now.tasks c.tasks-tasks.ensures.plan.sound).soft in
    omega (arith, soft.1, ap (λ (set : TaskSet). set.soft_limit) c.tasks-tasks.ensures.tasks, c.from-2.ensures, c.parts_in.ensures.small, ap length c.jobs.ensures.jobs, few_jobs c.args.plan.now c.jobs.ensures.plan, ap length c.spans.ensures.spans, few_spans c.args.plan.now c.spans.ensures.plan)
