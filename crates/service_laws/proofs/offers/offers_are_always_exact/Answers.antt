use Rattle.slot_facts.proofs.Offers.Exact.{offers_are_always_exact}
use Rattle.service_laws.proofs.offers.offers_are_always_exact.Goals as goal

pub returns : goal.returns
returns c = offers_are_always_exact
