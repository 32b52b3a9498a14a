-- No graph so far has a wrong entry.
use Rattle.std.proofs.Common.{◌≡◌}
use Rattle.slot_core.specs.Sets.Faults.{after_fault}
use Rattle.source_check.proofs.FaultSteps.{faults_from}
use Rattle.source_check.proofs.entries.check_entries.Given as goal

abbrev pub invariant-loop-place : goal.invariant-loop-place
invariant-loop-place l = faults_from after_fault l.graphs l.place ≡ faults_from after_fault l.graphs 0
