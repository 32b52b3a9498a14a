use Rattle.view_stairs.proofs.OfSets.{are-stairs}
use Rattle.view_stairs.proofs.laws.lines_are_stairs.Goals as goal

pub returns : goal.returns
returns c = are-stairs c.supply_is_found.ensures c.supply_rises_slowly.ensures
