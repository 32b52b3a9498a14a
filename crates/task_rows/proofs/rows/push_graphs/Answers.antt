use Rattle.task_rows.specs.Rows.{graph_rows}
use Rattle.task_rows.proofs.Steps.{flat_map-step}
use Rattle.task_rows.proofs.rows.push_graphs.Goals as goal

pub loop-graph-preserved : goal.loop-graph-preserved
loop-graph-preserved c =
    flat_map-step graph_rows c.args.rows.now.items c.loop-graph.rows.items c.push_graph.new.rows.items c.args.graphs.now c.loop-graph.graph-index c.graph-item.result c.loop-graph-test.true c.graph-item.is c.loop-graph.invariant c.in_ok-push_graph.ensures
