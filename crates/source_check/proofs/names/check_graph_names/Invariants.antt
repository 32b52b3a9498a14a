-- No graph so far has a doubled name.
use Rattle.std.proofs.Common.{◌≡◌}
use Rattle.source_check.proofs.FaultSteps.{graph_names_from}
use Rattle.source_check.proofs.names.check_graph_names.Given as goal

abbrev pub invariant-loop-place : goal.invariant-loop-place
invariant-loop-place l = graph_names_from l.graphs l.place ≡ graph_names_from l.graphs 0
