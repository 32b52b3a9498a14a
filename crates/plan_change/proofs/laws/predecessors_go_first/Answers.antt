use Rattle.plan_change.proofs.CarriedOrder.{predecessors_go_first}
use Rattle.plan_change.proofs.laws.predecessors_go_first.Goals as goal

pub returns : goal.returns
returns c = predecessors_go_first
