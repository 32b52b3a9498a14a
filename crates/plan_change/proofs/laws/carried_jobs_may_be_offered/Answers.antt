use Rattle.plan_change.proofs.CarriedRows.{carried_jobs_may_be_offered}
use Rattle.plan_change.proofs.laws.carried_jobs_may_be_offered.Goals as goal

pub returns : goal.returns
returns c = carried_jobs_may_be_offered
