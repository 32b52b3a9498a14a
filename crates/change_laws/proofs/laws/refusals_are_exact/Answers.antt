use Rattle.change_laws.proofs.GrantRefusals.{refusals_are_exact}
use Rattle.change_laws.proofs.laws.refusals_are_exact.Goals as goal

pub returns : goal.returns
returns c = refusals_are_exact
