use Rattle.future_check.proofs.Needs.{refusals_add_up}
use Rattle.future_check.proofs.laws.refusals_add_up.Goals as goal

pub returns : goal.returns
returns c = refusals_add_up
