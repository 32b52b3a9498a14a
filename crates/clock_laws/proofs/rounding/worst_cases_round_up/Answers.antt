use Rattle.clock_laws.proofs.Roundings.{worst_cases_round_up}
use Rattle.clock_laws.proofs.rounding.worst_cases_round_up.Goals as goal

pub returns : goal.returns
returns c = worst_cases_round_up
