use Rattle.std.proofs.Common.{length}
use Rattle.trace_lines.proofs.line.+least_from.Given as goal

abbrev pub decreases-least_from : goal.decreases-least_from
decreases-least_from l = length l.spans.now
