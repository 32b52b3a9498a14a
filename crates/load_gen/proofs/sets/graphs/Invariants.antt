-- The first graphs.
use Rattle.std.proofs.Common.{◌≡◌, map}
use Rattle.std.specs.List.{range_with_len}
use Rattle.load_gen.specs.Loads.{load_graph}
use Rattle.load_gen.proofs.sets.graphs.Given as goal

abbrev pub invariant-loop-i : goal.invariant-loop-i
invariant-loop-i l = l.graphs ≡ map load_graph (range_with_len 0 l.i)
