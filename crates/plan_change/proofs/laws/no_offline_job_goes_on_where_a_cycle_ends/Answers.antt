use Rattle.plan_change.proofs.Released.{no_offline_job_goes_on_where_a_cycle_ends}
use Rattle.plan_change.proofs.laws.no_offline_job_goes_on_where_a_cycle_ends.Goals as goal

pub returns : goal.returns
returns c = no_offline_job_goes_on_where_a_cycle_ends
