use Rattle.change_laws.proofs.GrantJobs.{the_cycles_are_least}
use Rattle.change_laws.proofs.laws.the_cycles_are_least.Goals as goal

pub returns : goal.returns
returns c = the_cycles_are_least
