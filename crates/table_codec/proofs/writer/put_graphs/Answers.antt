use Rattle.table_codec.specs.Grammar.{graph_form}
use Rattle.table_codec.proofs.WrittenSteps.{writes_on}
use Rattle.std.proofs.Common.{arith, rules}
use Rattle.std.proofs.lemmas.Grind.{common_steps}
use Rattle.table_codec.proofs.writer.put_graphs.Goals as goal

pub loop-graph-preserved : goal.loop-graph-preserved
loop-graph-preserved c =
    writes_on (graph_form c.args.layout 0).written c.args.graphs.now c.loop-graph.graph-index c.graph-item.result c.args.out.now.items c.loop-graph.out.items c.put_graph.new.out.items c.loop-graph-test.true c.graph-item.is c.loop-graph.invariant c.in_ok-put_graph.ensures

pub returns-in_err-put_graph : goal.returns-in_err-put_graph
returns-in_err-put_graph c = search rules

pub put_graph-requires : goal.put_graph-requires
put_graph-requires c = grind (arith, common_steps)

pub returns : goal.returns
returns c = grind (arith, common_steps)
