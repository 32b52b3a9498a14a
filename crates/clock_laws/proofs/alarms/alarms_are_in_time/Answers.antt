use Rattle.clock_laws.proofs.Handed.{alarms_are_in_time}
use Rattle.clock_laws.proofs.alarms.alarms_are_in_time.Goals as goal

pub returns : goal.returns
returns c = alarms_are_in_time
