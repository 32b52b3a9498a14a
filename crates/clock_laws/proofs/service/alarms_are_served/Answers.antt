use Rattle.clock_laws.proofs.Arrivals.{alarms_are_served}
use Rattle.clock_laws.proofs.service.alarms_are_served.Goals as goal

pub returns : goal.returns
returns c = alarms_are_served
