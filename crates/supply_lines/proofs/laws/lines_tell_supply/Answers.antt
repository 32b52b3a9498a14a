-- The lines tell the supply, by the laws of the search and of the supply.
use Rattle.supply_lines.proofs.Reading.{tell-supply}
use Rattle.supply_lines.proofs.laws.lines_tell_supply.Goals as goal

pub returns : goal.returns
returns c =
    tell-supply c.supply_is_found.ensures c.supply_rises_slowly.ensures c.numbers_are_read_between.ensures c.supply_is_the_most.ensures
