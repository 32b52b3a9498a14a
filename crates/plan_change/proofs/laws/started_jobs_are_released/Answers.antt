use Rattle.plan_change.proofs.Released.{started_jobs_are_released}
use Rattle.plan_change.proofs.laws.started_jobs_are_released.Goals as goal

pub returns : goal.returns
returns c = started_jobs_are_released
