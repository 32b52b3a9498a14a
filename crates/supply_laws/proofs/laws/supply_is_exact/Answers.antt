use Rattle.supply_laws.proofs.Exact.{supply_is_exact}
use Rattle.supply_laws.proofs.laws.supply_is_exact.Goals as goal

pub returns : goal.returns
returns c = supply_is_exact
