-- No graph so far has a loop.
use Rattle.std.proofs.Common.{◌≡◌}
use Rattle.slot_core.specs.Sets.Faults.{loop_fault}
use Rattle.source_check.proofs.FaultSteps.{faults_from}
use Rattle.source_check.proofs.loops.check_loops.Given as goal

abbrev pub invariant-loop-place : goal.invariant-loop-place
invariant-loop-place l = faults_from loop_fault l.graphs l.place ≡ faults_from loop_fault l.graphs 0
