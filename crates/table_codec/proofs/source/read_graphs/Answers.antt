use Rattle.std.proofs.Common.{◌≡◌, ◌+◌, ◌-◌, ◌++◌, ◌∷◌, [], ap, ◌∙◌}
use Rattle.std.proofs.lemmas.Result.{err_from_is_err_and}
use Rattle.table_codec.specs.Grammar.{graph_form}
use Rattle.table_codec.specs.Readers.{each_at}
use Rattle.table_codec.proofs.EachSteps.{with_front, goes_on, ends}
use Rattle.table_codec.proofs.source.read_graphs.Goals as goal

pub returns-in_err-graph : goal.returns-in_err-graph
returns-in_err-graph c =
    let p = err_from_is_err_and c.from_residual.result c.from_residual.ensures.1 in
    rw (p.1, p.2) (ends (λ i. (graph_form c.args.layout i).read) c.in_err-graph.field-0.0 c.loop-g.graphs c.args.count c.loop-g.g c.loop-g.input (each_at (λ i. (graph_form c.args.layout i).read) 0 c.args.count c.args.input.now) c.loop-g-test.true c.in_err-graph.ensures c.loop-g.invariant)

pub loop-g-preserved : goal.loop-g-preserved
loop-g-preserved c =
    let pushed : c.push.new.self ≡ c.loop-g.graphs ++ c.in_ok-graph.graph ∷ [] = c.in_ok-push.ensures.ok in
    let next = goes_on (λ i. (graph_form c.args.layout i).read) c.loop-g.graphs c.args.count c.loop-g.g c.loop-g.input c.read_graph.new.input c.in_ok-graph.graph (each_at (λ i. (graph_form c.args.layout i).read) 0 c.args.count c.args.input.now) c.loop-g-test.true c.in_ok-graph.ensures c.loop-g.invariant in
    ap (λ front. with_front front (each_at (λ i. (graph_form c.args.layout i).read) (c.loop-g.g + 1) (c.args.count - (c.loop-g.g + 1)) c.read_graph.new.input)) pushed ∙ next
