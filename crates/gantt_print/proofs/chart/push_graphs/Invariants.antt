-- What is appended, and the rows of the graphs that are left, are the rows of all graphs.
use Rattle.std.proofs.Common.{◌≡◌, ◌++◌, drop, map}
use Rattle.std.specs.Prelude.{flat_map}
use Rattle.std.specs.List.{enumerate_from}
use Rattle.slot_core.specs.Output.Charts.{graph_rows}
use Rattle.gantt_print.specs.Drawings.{unmarked}
use Rattle.gantt_print.proofs.chart.push_graphs.Given as goal

abbrev pub invariant-loop-index : goal.invariant-loop-index
invariant-loop-index l =
    l.tracks.items ++ map (unmarked l.slots) (flat_map graph_rows (enumerate_from l.index (drop l.index l.graphs))) ≡ l.initial.tracks.items ++ map (unmarked l.slots) (flat_map graph_rows (enumerate_from 0 l.graphs))
