use Rattle.plan_answers.proofs.Adding.{inside-demand}
use Rattle.plan_answers.proofs.laws.who_adds_up.Goals as goal

pub returns : goal.returns
returns c = λ set w. inside-demand set w
