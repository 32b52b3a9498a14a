use Rattle.std.proofs.Common.{◌≡◌}
use Rattle.slot_lengths.specs.Shorter.{greatest_part}
use Rattle.slot_lengths.proofs.shorter.greatest_part.Given as goal

abbrev pub invariant-loop-part : goal.invariant-loop-part
invariant-loop-part l = greatest_part l.cycle l.part ≡ greatest_part l.cycle l.most

abbrev pub decreases-loop-part : goal.decreases-loop-part
decreases-loop-part l = l.part
