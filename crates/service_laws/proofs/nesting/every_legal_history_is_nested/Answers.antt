use Rattle.service_laws.proofs.Stacks.{every_legal_history_is_nested}
use Rattle.service_laws.proofs.nesting.every_legal_history_is_nested.Goals as goal

pub returns : goal.returns
returns c = every_legal_history_is_nested
