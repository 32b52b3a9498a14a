use Rattle.std.proofs.Common.{◌≡◌, Ok, ap, ◌∙◌}
use Rattle.load_gen.specs.Loads.{load_set}
use Rattle.slot_core.specs.Keeping.Plans.{planned, PlanParts}
use Rattle.command_line.specs.Refusals.{Outcome}
use Rattle.slot_core.specs.declared.tasks.TaskSet.{TaskSet}
use Rattle.run_steps.specs.Readings.{feasible_plan}
use Rattle.run_steps.proofs.PlannedSets.{feasible_plan-from_feasible}
use Rattle.run_steps.proofs.generated.Goals as goal

pub returns-clause-due : goal.returns-clause-due
returns-clause-due c =
    let set : TaskSet = c.in_ok-set.set in
    let passes : feasible_plan set ≡ Ok (planned (load_set c.args.n)) = feasible_plan-from_feasible set c.in_ok-set.ensures.sound c.in_ok-set.ensures.feasible ∙ ap (λ (s : TaskSet). let o : Outcome PlanParts = Ok (planned s) in o) c.in_ok-set.ensures.set in
    rw passes at c.feasible.ensures.due
