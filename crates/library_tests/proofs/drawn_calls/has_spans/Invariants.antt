use Rattle.std.proofs.Common.{◌<◌, length}
use Rattle.library_tests.proofs.drawn_calls.has_spans.Given as goal

-- the spot stands in the table
abbrev pub invariant-loop-row : goal.invariant-loop-row
invariant-loop-row g l = l.spot.0 < length (g.T.SpareTable.spans l.table)
