use Rattle.std.proofs.Common.{◌∙◌}
use Rattle.plan_reports.proofs.write_table.Goals as goal

pub returns : goal.returns
returns g c = rw (c.as_slice.ensures.value ∙ c.in_ok-bytes.ensures) at c.in_ok-put.ensures.ok
