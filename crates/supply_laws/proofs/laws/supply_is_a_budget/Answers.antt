use Rattle.supply_laws.proofs.Most.{supply_is_a_budget}
use Rattle.supply_laws.proofs.laws.supply_is_a_budget.Goals as goal

pub returns : goal.returns
returns c = supply_is_a_budget
