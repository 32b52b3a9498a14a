use Rattle.plan_answers.proofs.Sums.{loads-demand}
use Rattle.plan_answers.proofs.laws.load_adds_up.Goals as goal

pub returns : goal.returns
returns c = λ set cycle sound. loads-demand set cycle sound
