use Rattle.clock_laws.proofs.Sparing.{sparing_is_exact}
use Rattle.clock_laws.proofs.exact.sparing_is_exact.Goals as goal

pub returns : goal.returns
returns c = sparing_is_exact
