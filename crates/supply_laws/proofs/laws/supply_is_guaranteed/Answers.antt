use Rattle.supply_laws.proofs.Guaranteed.{supply_is_guaranteed}
use Rattle.supply_laws.proofs.laws.supply_is_guaranteed.Goals as goal

pub returns : goal.returns
returns c = supply_is_guaranteed
