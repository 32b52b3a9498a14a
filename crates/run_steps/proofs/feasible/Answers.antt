use Rattle.run_steps.proofs.PlannedSets.{feasible_plan-from_plan}
use Rattle.run_steps.proofs.feasible.Goals as goal

pub returns-in-Ok-clause-due : goal.returns-in-Ok-clause-due
returns-in-Ok-clause-due c =
    feasible_plan-from_plan c.in-Ok.plan c.args.set c.in-Ok.ensures.tasks c.in-Ok.ensures.plan
