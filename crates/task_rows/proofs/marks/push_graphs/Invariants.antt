use Rattle.std.proofs.Common.{◌≡◌, ◌++◌, take}
use Rattle.std.specs.Prelude.{flat_map}
use Rattle.task_rows.specs.Marks.{graph_marks}
use Rattle.task_rows.proofs.marks.push_graphs.Given as goal

abbrev pub invariant-loop-graph : goal.invariant-loop-graph
invariant-loop-graph l =
    l.marks.items ≡ l.initial.marks.items ++ flat_map (graph_marks l.rows l.edges) (take l.graph-index l.graph-items)
