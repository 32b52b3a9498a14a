use Rattle.change_laws.proofs.GrantLiteral.{changes_at_are_exact}
use Rattle.change_laws.proofs.laws.changes_at_are_exact.Goals as goal

pub returns : goal.returns
returns c = changes_at_are_exact
