use Rattle.plan_change.proofs.SoftBeside.{soft_work_plays_no_part}
use Rattle.plan_change.proofs.laws.soft_work_plays_no_part.Goals as goal

pub returns : goal.returns
returns c = soft_work_plays_no_part
