-- The chains of one graph more.
use Rattle.window_derive.proofs.SoundSets.{AreChainsOfGraphs-more}
use Rattle.window_derive.proofs.windows.chains_of_graphs.Goals as goal

pub loop-graph-preserved : goal.loop-graph-preserved
loop-graph-preserved c =
    let old = c.loop-graph.chains.items in
    AreChainsOfGraphs-more c.args.graphs.now old c.push.new.self.items c.loop-graph.graph-index c.graph-item.result c.in_ok-chains_of_graph.field-0 c.loop-graph-test.true c.graph-item.is c.loop-graph.invariant c.in_ok-chains_of_graph.ensures c.in_ok-push.ensures.items
