use Rattle.supply_find.proofs.Found.{supply_is_found}
use Rattle.supply_find.proofs.laws.supply_is_found.Goals as goal

pub returns : goal.returns
returns c = supply_is_found
