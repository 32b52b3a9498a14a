use Rattle.timed_arrivals.proofs.ReadBack.{read-back}
use Rattle.timed_arrivals.proofs.laws.slots_are_read_back.Goals as goal

pub returns : goal.returns
returns c = read-back
