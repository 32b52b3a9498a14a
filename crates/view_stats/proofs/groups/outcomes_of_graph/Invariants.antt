-- The outcomes so far of the jobs of the graph.
use Rattle.std.proofs.Common.{◌≡◌, take}
use Rattle.view_stats.specs.Groups.{outcomes_of_graph}
use Rattle.view_stats.proofs.groups.outcomes_of_graph.Given as goal

abbrev pub invariant-loop-outcome : goal.invariant-loop-outcome
invariant-loop-outcome l = l.own.items ≡ outcomes_of_graph l.graph (take l.outcome-index l.outcomes)
