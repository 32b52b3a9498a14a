use Rattle.demand_test.proofs.Schedules.{unserved-from_some}
use Rattle.plan_answers.proofs.laws.who_is_unserved.Goals as goal

pub returns : goal.returns
returns c = λ set w sound found. unserved-from_some set w sound found
