use Rattle.std.proofs.Common.{◌∙◌, arith}
use Rattle.slot_facts.proofs.Offline.Jobs.{cycle-at_most}
use Rattle.margin_find.proofs.KeptJobs.{AreOthers-from_plan, needed-from_plan}
use Rattle.margin_find.proofs.kept.Kept.of.Goals as goal

pub overflow_mul-cycle : goal.overflow_mul-cycle
overflow_mul-cycle c =
    let plan = c.cycle.ensures.plan in
    omega (arith, c.cycle.ensures.cycle, plan.cycle, cycle-at_most c.args.plan.now.tasks plan.sound)

pub needed_table-requires : goal.needed_table-requires
needed_table-requires c =
    let plan = c.cycle.ensures.plan in
    omega (arith, c.cycle.ensures.cycle, plan.cycle, cycle-at_most c.args.plan.now.tasks plan.sound)

pub returns : goal.returns
returns c =
    let plan = c.args.plan.now in
    let others = AreOthers-from_plan plan c.jobs_by_start.result.now c.in_ok-others.others.items c.graph_of-graph.result c.jobs_by_start.ensures.plan c.jobs_by_start.ensures.items c.jobs_by_start.ensures.starts c.in_ok-others.ensures in (
      record {
        whole = c.cycle-2.ensures.cycle ∙ c.cycle-2.ensures.plan.cycle;
        needed = needed-from_plan plan c.sporadics.result.now c.cycle.result c.in_ok-arrivals.arrivals c.cycle.ensures.plan c.sporadics.ensures.sporadics c.cycle.ensures.cycle c.in_ok-arrivals.ensures.values;
        small = c.in_ok-arrivals.ensures.small;
        ordered = others.ordered;
        listed = others.listed;
      },
      c.graph_of-graph.ensures,
    )
