use Rattle.std.proofs.Common.{◌∙◌}
use Rattle.plan_reports.proofs.put_lines.Goals as goal

pub returns : goal.returns
returns g c = rw (c.from.ensures) at (rw (c.bytes.ensures ∙ c.verified_line-line.ensures) at c.in_ok-put.ensures.ok)
