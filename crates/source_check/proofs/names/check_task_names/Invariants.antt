-- No name so far is doubled.
use Rattle.std.proofs.Common.{◌≡◌}
use Rattle.slot_core.specs.declared.faults.Part.TheVariants.{Task as TaskPart}
use Rattle.slot_core.specs.declared.tasks.Task.{Task}
use Rattle.source_check.proofs.FaultSteps.{names_from}
use Rattle.source_check.proofs.names.check_task_names.Given as goal

abbrev pub invariant-loop-place : goal.invariant-loop-place
invariant-loop-place l =
    names_from (TaskPart l.graph) (λ (t : Task). t.name) l.tasks l.place ≡ names_from (TaskPart l.graph) (λ (t : Task). t.name) l.tasks 0
