use Rattle.std.proofs.Common.{◌≡◌, ◌-◌}
use Rattle.table_codec.specs.Grammar.{graph_form}
use Rattle.table_codec.specs.Readers.{each_at}
use Rattle.table_codec.proofs.EachSteps.{with_front}
use Rattle.table_codec.proofs.source.read_graphs.Given as goal

abbrev pub invariant-loop-g : goal.invariant-loop-g
invariant-loop-g l =
    with_front l.graphs (each_at (λ i. (graph_form l.layout i).read) l.g (l.count - l.g) l.input) ≡ each_at (λ i. (graph_form l.layout i).read) 0 l.count l.fn.input
