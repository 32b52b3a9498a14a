use Rattle.supply_laws.proofs.SpareCycle.{these_times_are_all}
use Rattle.supply_laws.proofs.laws.these_times_are_all.Goals as goal

pub returns : goal.returns
returns c = these_times_are_all
