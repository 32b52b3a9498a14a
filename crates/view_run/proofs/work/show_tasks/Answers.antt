-- The picture over the tasks of the plan is written, or has its cause.
use Rattle.std.proofs.Common.{Err, refl, sym, ap, subst, ◌∙◌}
use Rattle.task_rows.specs.Pictures.{ShowsTasks}
use Rattle.view_run.specs.Shown.{IsTaskPictureRefusal}
use Rattle.view_run.proofs.Causes.{of_tasks-cause, tasks-unfailed}
use Rattle.view_run.proofs.work.show_tasks.Goals as goal

pub put_task_picture-requires : goal.put_task_picture-requires
put_task_picture-requires g c = (
  c.in-Ok.ensures.formed,
  subst (λ set. ShowsTasks set c.args.lines.now c.in-Ok.document) c.tasks.ensures.tasks c.in-Ok.ensures.shows,
  c.in-Ok.ensures.short refl,
)

pub returns-in-Err-clause-part : goal.returns-in-Err-clause-part
returns-in-Err-clause-part g c = λ write. absurd (tasks-unfailed c.in-Err.fault (sym c.of_tasks.ensures ∙ cc write))

pub returns-in-Err-clause-refused : goal.returns-in-Err-clause-refused
returns-in-Err-clause-refused g c =
    subst
    (IsTaskPictureRefusal c.args.plan.now c.args.number c.args.lines.now _ _)
    (sym c.of_tasks.ensures)
    (of_tasks-cause c.args.plan.now c.tasks.result.now c.args.number c.args.lines.now _ _ c.in-Err.fault c.tasks.ensures.tasks (λ same. c.task_picture.ensures.cause (c.in-Err.is ∙ ap Err same)) (λ same. c.task_picture.ensures.too_many (c.in-Err.is ∙ ap Err same)) (λ n same. c.task_picture.ensures.no_task n (c.in-Err.is ∙ ap Err same)))
