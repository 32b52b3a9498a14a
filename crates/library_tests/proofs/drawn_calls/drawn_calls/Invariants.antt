use Rattle.std.proofs.Common.{◌≡◌}
use Rattle.library_tests.proofs.drawn_calls.drawn_calls.Given as goal

-- the room stays
abbrev pub invariant-loop-call : goal.invariant-loop-call
invariant-loop-call g l = g.T.SpareTable.limit l.table ≡ 24

abbrev pub invariant-loop-copy : goal.invariant-loop-copy
invariant-loop-copy g l = g.T.SpareTable.limit l.table ≡ 24
