use Rattle.margin_find.proofs.Growths.{cycle_stays}
use Rattle.margin_find.proofs.laws.cycle_stays.Goals as goal

pub returns : goal.returns
returns c = cycle_stays
