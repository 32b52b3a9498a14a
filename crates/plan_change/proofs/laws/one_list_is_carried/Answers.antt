use Rattle.plan_change.proofs.CarriedOrder.{one_list_is_carried}
use Rattle.plan_change.proofs.laws.one_list_is_carried.Goals as goal

pub returns : goal.returns
returns c = one_list_is_carried
