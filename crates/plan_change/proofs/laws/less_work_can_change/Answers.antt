use Rattle.plan_change.proofs.FirstOffers.{less_work_can_change}
use Rattle.plan_change.proofs.laws.less_work_can_change.Goals as goal

pub returns : goal.returns
returns c = less_work_can_change
