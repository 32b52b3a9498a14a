use Rattle.plan_change.proofs.FirstOffers.{first_offers_are_exact}
use Rattle.plan_change.proofs.laws.first_offers_are_exact.Goals as goal

pub returns : goal.returns
returns c = first_offers_are_exact
