-- It has a digit more than its logarithm tells.
use Rattle.std.proofs.Common.{arith}
use Rattle.trace_text.proofs.Digits.{length_between}
use Rattle.trace_text.proofs.line.Line.push_long.Goals as goal

pub push_digits-requires-clause-counted : goal.push_digits-requires-clause-counted
push_digits-requires-clause-counted c =
    length_between c.ilog10.result c.args.n c.ilog10.ensures.power_le c.ilog10.ensures.next_power_gt (omega arith)
