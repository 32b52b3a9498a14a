use Rattle.supply_laws.proofs.Most.{supply_is_the_most}
use Rattle.supply_laws.proofs.laws.supply_is_the_most.Goals as goal

pub returns : goal.returns
returns c = supply_is_the_most
