use Rattle.plan_change.proofs.CarriedServed.{carried_jobs_are_served}
use Rattle.plan_change.proofs.laws.carried_jobs_are_served.Goals as goal

pub returns : goal.returns
returns c = carried_jobs_are_served
