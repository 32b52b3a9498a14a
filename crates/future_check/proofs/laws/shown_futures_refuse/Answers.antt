use Rattle.future_check.proofs.Needs.{shown_futures_refuse}
use Rattle.future_check.proofs.laws.shown_futures_refuse.Goals as goal

pub returns : goal.returns
returns c = shown_futures_refuse
