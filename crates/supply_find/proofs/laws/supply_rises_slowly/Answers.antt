use Rattle.supply_find.proofs.Found.{supply_rises_slowly}
use Rattle.supply_find.proofs.laws.supply_rises_slowly.Goals as goal

pub returns : goal.returns
returns c = supply_rises_slowly
