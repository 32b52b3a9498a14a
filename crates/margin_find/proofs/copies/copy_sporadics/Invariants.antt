use Rattle.std.proofs.Common.{◌≡◌, take}
use Rattle.margin_find.proofs.copies.copy_sporadics.Given as goal

abbrev pub invariant-loop-sporadic : goal.invariant-loop-sporadic
invariant-loop-sporadic l = l.copies ≡ take l.sporadic-index l.sporadics
