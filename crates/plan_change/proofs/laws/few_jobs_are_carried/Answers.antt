use Rattle.plan_change.proofs.Released.{few_jobs_are_carried}
use Rattle.plan_change.proofs.laws.few_jobs_are_carried.Goals as goal

pub returns : goal.returns
returns c = few_jobs_are_carried
