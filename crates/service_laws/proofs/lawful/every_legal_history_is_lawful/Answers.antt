use Rattle.slot_facts.proofs.Lawful.FromLegal.{every_legal_history_is_lawful}
use Rattle.service_laws.proofs.lawful.every_legal_history_is_lawful.Goals as goal

pub returns : goal.returns
returns c = every_legal_history_is_lawful
