use Rattle.change_laws.proofs.GrantJobs.{what_remains_is_carried}
use Rattle.change_laws.proofs.laws.what_remains_is_carried.Goals as goal

pub returns : goal.returns
returns c = what_remains_is_carried
