use Rattle.std.proofs.Common.{◌≡◌, ◌++◌, drop}
use Rattle.std.specs.Prelude.{flat_map}
use Rattle.std.specs.List.{enumerate_from}
use Rattle.margin_find.specs.Margins.{graph_parts}
use Rattle.margin_find.proofs.all.push_graphs.Given as goal

abbrev pub invariant-loop-index : goal.invariant-loop-index
invariant-loop-index l =
    l.parts ++ flat_map graph_parts (enumerate_from l.index (drop l.index l.graphs)) ≡ l.initial.parts ++ flat_map graph_parts (enumerate_from 0 l.graphs)
