use Rattle.slot_facts.proofs.Legal.Served.{every_legal_history_is_served}
use Rattle.service_laws.proofs.service.every_legal_history_is_served.Goals as goal

pub returns : goal.returns
returns c = every_legal_history_is_served
