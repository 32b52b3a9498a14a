-- The plan is the one that its file calls for, or has the refusal that is due.
use Rattle.view_run.proofs.Causes.{plan-given, plan-refused}
use Rattle.view_run.proofs.work.planned.Goals as goal

pub returns-clause-plan : goal.returns-clause-plan
returns-clause-plan g c =
    plan-given _ _ _ _ _ _ _ c.args.source c.plan_source.result c.plan_from.result _ c.plan_source.ensures c.plan_from.ensures.reading c.plan_from.ensures.plan

pub returns-clause-refused : goal.returns-clause-refused
returns-clause-refused g c =
    plan-refused _ _ _ _ _ _ c.args.source c.plan_source.result c.plan_from.result _ c.plan_source.ensures c.plan_from.ensures.reading

pub returns-clause-reads_well : goal.returns-clause-reads_well
returns-clause-reads_well g c = c.plan_from.ensures.reading.counts
