use Rattle.std.proofs.Common.{◌≡◌}
use Rattle.std.specs.Prelude.{flat_map}
use Rattle.std.specs.List.{range_with_len}
use Rattle.slot_lengths.specs.Lengths.{length_at}
use Rattle.slot_lengths.proofs.lengths.lengths_in.Given as goal

abbrev pub invariant-loop-place : goal.invariant-loop-place
invariant-loop-place l =
    l.lengths ≡ flat_map (length_at l.from l.to l.graphs) (range_with_len 1 l.place)
