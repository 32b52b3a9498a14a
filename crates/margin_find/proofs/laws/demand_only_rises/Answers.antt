use Rattle.margin_find.proofs.Growths.{demand_only_rises}
use Rattle.margin_find.proofs.laws.demand_only_rises.Goals as goal

pub returns : goal.returns
returns c = demand_only_rises
