use Rattle.clock_laws.proofs.Arrivals.{requests_are_served}
use Rattle.clock_laws.proofs.service.requests_are_served.Goals as goal

pub returns : goal.returns
returns c = requests_are_served
