use Rattle.margin_find.proofs.KeptJobs.{AreOthers-from_plan}
use Rattle.margin_find.proofs.kept.Kept.turned.Goals as goal

pub returns : goal.returns
returns c =
    let plan = c.args.plan.now in
    let others = AreOthers-from_plan plan c.jobs_by_start.result.now c.in_ok-others.others.items c.graph_of-graph.result c.jobs_by_start.ensures.plan c.jobs_by_start.ensures.items c.jobs_by_start.ensures.starts c.in_ok-others.ensures in
    let before = c.requires in (
      record {
        whole = before.whole;
        needed = before.needed;
        small = before.small;
        ordered = others.ordered;
        listed = others.listed;
      },
      c.graph_of-graph.ensures,
    )
