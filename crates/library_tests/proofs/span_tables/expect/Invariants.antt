use Rattle.std.proofs.Common.{◌<◌, length}
use Rattle.library_tests.proofs.span_tables.expect.Given as goal

-- the spot stands in the table
abbrev pub invariant-loop-ends : goal.invariant-loop-ends
invariant-loop-ends g l = l.spot.0 < length (g.T.SpareTable.spans l.table)
