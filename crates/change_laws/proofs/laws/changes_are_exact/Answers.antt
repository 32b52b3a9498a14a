use Rattle.change_laws.proofs.GrantExact.{changes_are_exact}
use Rattle.change_laws.proofs.laws.changes_are_exact.Goals as goal

pub returns : goal.returns
returns c = changes_are_exact
