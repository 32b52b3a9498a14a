use Rattle.clock_laws.proofs.Nanos.{slots_give_time}
use Rattle.clock_laws.proofs.service.slots_give_time.Goals as goal

pub returns : goal.returns
returns c = slots_give_time
