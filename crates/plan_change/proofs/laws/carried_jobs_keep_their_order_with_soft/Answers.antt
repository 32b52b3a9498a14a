use Rattle.plan_change.proofs.CarriedServed.{carried_jobs_keep_their_order_with_soft}
use Rattle.plan_change.proofs.laws.carried_jobs_keep_their_order_with_soft.Goals as goal

pub returns : goal.returns
returns c = carried_jobs_keep_their_order_with_soft
