use Rattle.slot_facts.proofs.Legal.Kept.{every_legal_history_is_kept}
use Rattle.service_laws.proofs.bounds.every_legal_history_is_kept.Goals as goal

pub returns : goal.returns
returns c = every_legal_history_is_kept
