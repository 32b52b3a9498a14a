use Rattle.supply_lines.proofs.Reading.{tells-within}
use Rattle.supply_lines.proofs.laws.line_tells_within.Goals as goal

pub returns : goal.returns
returns c = tells-within c.supply_is_found.ensures c.supply_is_the_most.ensures
