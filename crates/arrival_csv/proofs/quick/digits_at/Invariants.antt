use Rattle.std.proofs.Common.{length, ◌-◌}
use Rattle.arrival_csv.specs.Quick.{AreDigitsAt}
use Rattle.arrival_csv.proofs.quick.digits_at.Given as goal

abbrev pub invariant-loop-end : goal.invariant-loop-end
invariant-loop-end l = AreDigitsAt l.text l.start l.value l.end

abbrev pub decreases-loop-end : goal.decreases-loop-end
decreases-loop-end l = length l.text - l.end
