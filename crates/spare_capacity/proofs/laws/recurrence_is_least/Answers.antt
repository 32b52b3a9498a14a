use Rattle.spare_capacity.proofs.Least.{capacity_is_least}
use Rattle.spare_capacity.proofs.laws.recurrence_is_least.Goals as goal

pub returns : goal.returns
returns c = capacity_is_least c.args.rows.now c.args.at c.requires.filled c.requires.within
