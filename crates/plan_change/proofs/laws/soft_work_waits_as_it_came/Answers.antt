use Rattle.plan_change.proofs.SoftBeside.{soft_work_waits_as_it_came}
use Rattle.plan_change.proofs.laws.soft_work_waits_as_it_came.Goals as goal

pub returns : goal.returns
returns c = soft_work_waits_as_it_came
