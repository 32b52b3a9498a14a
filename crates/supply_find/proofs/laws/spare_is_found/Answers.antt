use Rattle.supply_find.proofs.SpareFound.{spare_is_found}
use Rattle.supply_find.proofs.laws.spare_is_found.Goals as goal

pub returns : goal.returns
returns c = spare_is_found c.these_times_are_all.ensures
