use Rattle.plan_change.proofs.Together.{offers_together_are_exact}
use Rattle.plan_change.proofs.laws.offers_together_are_exact.Goals as goal

pub returns : goal.returns
returns c = offers_together_are_exact
