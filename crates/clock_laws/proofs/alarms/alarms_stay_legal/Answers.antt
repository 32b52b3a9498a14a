use Rattle.clock_laws.proofs.Handed.{alarms_stay_legal}
use Rattle.clock_laws.proofs.alarms.alarms_stay_legal.Goals as goal

pub returns : goal.returns
returns c = alarms_stay_legal
