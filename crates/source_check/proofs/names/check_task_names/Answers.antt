-- The name at this place is doubled, or it is not.
use Rattle.std.proofs.Common.{sym, ap, ◌∙◌, Some}
use Rattle.slot_core.specs.declared.faults.Part.TheVariants.{Task as TaskPart}
use Rattle.slot_core.specs.declared.tasks.Task.{Task}
use Rattle.source_check.proofs.FaultSteps.{names_step, told, told_later}
use Rattle.source_check.proofs.names.check_task_names.Goals as goal

pub returns-then-is_task_name : goal.returns-then-is_task_name
returns-then-is_task_name c =
    let step = names_step (TaskPart c.args.graph) (λ (t : Task). t.name) c.args.tasks.now c.loop-place.place c.index-tasks-place.result c.loop-place-test.true c.index-tasks-place.is in
    sym c.loop-place.invariant ∙ told _ _ _ _ step (sym c.is_task_name.ensures ∙ c.if-is_task_name.true) ∙ ap Some (sym c.doubled_name.ensures)

pub loop-place-preserved : goal.loop-place-preserved
loop-place-preserved c =
    let step = names_step (TaskPart c.args.graph) (λ (t : Task). t.name) c.args.tasks.now c.loop-place.place c.index-tasks-place.result c.loop-place-test.true c.index-tasks-place.is in
    sym (told_later _ _ _ _ step (sym c.is_task_name.ensures ∙ c.if-is_task_name.false)) ∙ c.loop-place.invariant
