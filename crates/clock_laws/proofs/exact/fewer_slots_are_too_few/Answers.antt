use Rattle.clock_laws.proofs.Sparing.{fewer_slots_are_too_few}
use Rattle.clock_laws.proofs.exact.fewer_slots_are_too_few.Goals as goal

pub returns : goal.returns
returns c = fewer_slots_are_too_few
