use Rattle.std.proofs.Common.{◌≡◌, ◌++◌, take}
use Rattle.std.specs.Prelude.{flat_map}
use Rattle.table_codec.specs.Grammar.{graph_form}
use Rattle.table_codec.proofs.writer.put_graphs.Given as goal

abbrev pub invariant-loop-graph : goal.invariant-loop-graph
invariant-loop-graph l = l.out.items ≡ l.fn.out.items ++ flat_map (graph_form l.layout 0).written (take l.graph-index l.graphs)
