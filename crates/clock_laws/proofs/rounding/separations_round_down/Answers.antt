use Rattle.clock_laws.proofs.Roundings.{separations_round_down}
use Rattle.clock_laws.proofs.rounding.separations_round_down.Goals as goal

pub returns : goal.returns
returns c = separations_round_down
