use Rattle.std.proofs.Common.{◌≡◌, ◌*◌, ◌^◌, ◌≤◌, take}
use Rattle.std.specs.Prelude.{sum_by}
use Rattle.slot_lengths.specs.Loads.{graph_work}
use Rattle.slot_lengths.proofs.loads.graphs_work.Given as goal

abbrev pub invariant-loop-graph : goal.invariant-loop-graph
invariant-loop-graph l =
    (l.work ≡ sum_by (graph_work l.time) (take l.graph-index l.graphs))
    × (l.work ≤ l.graph-index * 2 ^ 84)
