use Rattle.plan_change.proofs.CarriedServed.{carried_jobs_are_served_with_soft}
use Rattle.plan_change.proofs.laws.carried_jobs_are_served_with_soft.Goals as goal

pub returns : goal.returns
returns c = carried_jobs_are_served_with_soft
