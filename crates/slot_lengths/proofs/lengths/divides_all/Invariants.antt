use Rattle.std.proofs.Common.{◌≡◌, drop}
use Rattle.slot_lengths.specs.Lengths.{divides_all}
use Rattle.slot_lengths.proofs.lengths.divides_all.Given as goal

abbrev pub invariant-loop-graph : goal.invariant-loop-graph
invariant-loop-graph l =
    divides_all l.slot l.graphs ≡ divides_all l.slot (drop l.graph-index l.graphs)
