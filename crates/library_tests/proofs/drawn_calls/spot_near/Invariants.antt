use Rattle.std.proofs.Common.{◌<◌, length}
use Rattle.library_tests.proofs.drawn_calls.spot_near.Given as goal

-- the spot stands in the table
abbrev pub invariant-loop-place : goal.invariant-loop-place
invariant-loop-place g l = l.spot.0 < length (g.T.SpareTable.spans l.table)
