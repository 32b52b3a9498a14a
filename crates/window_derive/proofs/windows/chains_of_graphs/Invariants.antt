-- The chains of the graphs so far.
use Rattle.std.proofs.Common.{take}
use Rattle.window_derive.specs.GraphChains.{AreChainsOfGraphs}
use Rattle.window_derive.proofs.windows.chains_of_graphs.Given as goal

abbrev pub invariant-loop-graph : goal.invariant-loop-graph
invariant-loop-graph l = AreChainsOfGraphs (take l.graph-index l.graphs) l.chains.items
