use Rattle.slot_facts.proofs.Legal.Executives.{every_executive_is_kept}
use Rattle.service_laws.proofs.bounds.every_executive_is_kept.Goals as goal

pub returns : goal.returns
returns c = every_executive_is_kept
