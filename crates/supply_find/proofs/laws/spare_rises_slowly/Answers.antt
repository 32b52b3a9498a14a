use Rattle.supply_find.proofs.SpareFound.{spare_rises_slowly}
use Rattle.supply_find.proofs.laws.spare_rises_slowly.Goals as goal

pub returns : goal.returns
returns c = spare_rises_slowly
