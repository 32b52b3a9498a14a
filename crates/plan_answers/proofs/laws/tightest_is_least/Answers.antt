use Rattle.plan_answers.proofs.Least.{least-from_tightest}
use Rattle.plan_answers.proofs.laws.tightest_is_least.Goals as goal

pub returns : goal.returns
returns c = λ set cycle w fits is. least-from_tightest set cycle w fits is
