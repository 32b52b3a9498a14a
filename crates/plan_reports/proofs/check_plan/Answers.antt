use Rattle.std.proofs.Common.{◌∙◌}
use Rattle.plan_reports.proofs.check_plan.Goals as goal

pub returns : goal.returns
returns g c = rw (c.as_slice.ensures.value ∙ c.in_ok-line.ensures) at c.in_ok-put.ensures.ok
