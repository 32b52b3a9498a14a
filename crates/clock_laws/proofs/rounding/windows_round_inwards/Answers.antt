use Rattle.clock_laws.proofs.Roundings.{windows_round_inwards}
use Rattle.clock_laws.proofs.rounding.windows_round_inwards.Goals as goal

pub returns : goal.returns
returns c = windows_round_inwards
