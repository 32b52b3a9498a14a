-- No task so far has a wrong entry.
use Rattle.std.proofs.Common.{◌≡◌, length}
use Rattle.slot_core.specs.Sets.Faults.{task_fault}
use Rattle.source_check.proofs.FaultSteps.{faults_from}
use Rattle.source_check.proofs.entries.check_graph_entries.Given as goal

abbrev pub invariant-loop-place : goal.invariant-loop-place
invariant-loop-place l =
    faults_from (task_fault l.index (length l.tasks)) l.tasks l.place ≡ faults_from (task_fault l.index (length l.tasks)) l.tasks 0
