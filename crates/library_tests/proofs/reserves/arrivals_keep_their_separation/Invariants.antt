use Rattle.std.proofs.Common.{◌≡◌, length}
use Rattle.library_tests.proofs.reserves.arrivals_keep_their_separation.Given as goal

abbrev pub invariant-loop-index : goal.invariant-loop-index
invariant-loop-index g l = length l.reserve.sporadics ≡ 2
