use Rattle.std.proofs.Common.{◌≡◌, ◌++◌, take}
use Rattle.std.specs.Prelude.{flat_map}
use Rattle.task_rows.specs.Rows.{graph_rows}
use Rattle.task_rows.proofs.rows.push_graphs.Given as goal

abbrev pub invariant-loop-graph : goal.invariant-loop-graph
invariant-loop-graph l =
    l.rows.items ≡ l.initial.rows.items ++ flat_map graph_rows (take l.graph-index l.graphs)
