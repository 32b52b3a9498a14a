use Rattle.std.proofs.Common.{arith}
use Rattle.interval_row.proofs.Cycles.{last_end-last}
use Rattle.interval_row.proofs.spans.last_end.Goals as goal

pub returns-in-len1-up : goal.returns-in-len1-up
returns-in-len1-up c = last_end-last 0 c.args.spans.now (omega (arith, c.in-len1-up.len_at_least))
