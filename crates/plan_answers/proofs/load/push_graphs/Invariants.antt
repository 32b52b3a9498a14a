-- The lines of the graphs so far are appended.
use Rattle.std.proofs.Common.{◌≡◌, ◌+◌, ◌*◌, ◌++◌, take}
use Rattle.std.specs.Prelude.{flat_map}
use Rattle.plan_answers.specs.Loads.{graph_lines}
use Rattle.plan_answers.proofs.load.push_graphs.Given as goal

abbrev pub invariant-loop-graph : goal.invariant-loop-graph
invariant-loop-graph l = l.text.items ≡ l.initial.text.items ++ flat_map (graph_lines l.cycle) (take l.graph-index l.graphs)
