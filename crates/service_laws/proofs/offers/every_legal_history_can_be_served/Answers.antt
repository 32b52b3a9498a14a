use Rattle.slot_facts.proofs.Offers.Served.{every_legal_history_can_be_served}
use Rattle.service_laws.proofs.offers.every_legal_history_can_be_served.Goals as goal

pub returns : goal.returns
returns c = every_legal_history_can_be_served
