use Rattle.clock_laws.proofs.Taken.{alarms_are_taken}
use Rattle.clock_laws.proofs.alarms.alarms_are_taken.Goals as goal

pub returns : goal.returns
returns c = alarms_are_taken
