use Rattle.future_check.proofs.Needs.{all_is_shown}
use Rattle.future_check.proofs.laws.all_is_shown.Goals as goal

pub returns : goal.returns
returns c = all_is_shown
