use Rattle.supply_laws.proofs.SpareAccepted.{spare_is_guaranteed}
use Rattle.supply_laws.proofs.laws.spare_is_guaranteed.Goals as goal

pub returns : goal.returns
returns c = spare_is_guaranteed
