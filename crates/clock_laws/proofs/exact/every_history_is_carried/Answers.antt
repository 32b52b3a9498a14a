use Rattle.clock_laws.proofs.Sparing.{every_history_is_carried}
use Rattle.clock_laws.proofs.exact.every_history_is_carried.Goals as goal

pub returns : goal.returns
returns c = every_history_is_carried
