use Rattle.plan_change.proofs.OfferOrder.{the_order_of_offers_is_free}
use Rattle.plan_change.proofs.laws.the_order_of_offers_is_free.Goals as goal

pub returns : goal.returns
returns c = the_order_of_offers_is_free
