use Rattle.std.proofs.Common.{◌≡◌, drop, map}
use Rattle.toml.specs.View.{table_view}
use Rattle.unit_toml.specs.Reading.{each, graph_of}
use Rattle.unit_toml.proofs.EachLoop.{with_before}
use Rattle.unit_toml.proofs.graphs.read_graphs.Given as goal

abbrev pub invariant-loop-g : goal.invariant-loop-g
invariant-loop-g l =
    each graph_of 0 (map (λ t. table_view t.now) l.tables) ≡ with_before l.graphs (each graph_of l.g (map (λ t. table_view t.now) (drop l.g l.tables)))
