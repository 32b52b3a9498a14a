use Rattle.plan_change.proofs.CarriedOrder.{the_row_order_rises}
use Rattle.plan_change.proofs.laws.the_row_order_rises.Goals as goal

pub returns : goal.returns
returns c = the_row_order_rises
