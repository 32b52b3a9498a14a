-- The view is that of the lines of the input, over the plan of the file.
use Rattle.std.proofs.Common.{ap, subst, ◌∙◌}
use Rattle.std.proofs.lemmas.Result.{on_ok_weaker}
use Rattle.view_run.specs.Inputs.{HasFirst, shown_lines}
use Rattle.view_run.specs.Shown.{IsPlanText}
use Rattle.view_run.specs.Views.{slots_in}
use Rattle.view_run.proofs.work.work_of_plan.Goals as goal

pub returns-clause-shown : goal.returns-clause-shown
returns-clause-shown g c =
    let (lines, input, (shown, number, first)) = c.in_ok-part.ensures.shown in
    let plan = c.in_ok-plan.plan in
    let view = c.args.view in
    let same = c.deref.ensures.value ∙ shown ∙ ap (λ s. shown_lines s lines) c.slots.ensures in
    let begins : HasFirst (slots_in view) lines = subst (λ s. HasFirst s lines) c.slots.ensures first in
    on_ok_weaker
    c.show_planned.result
    (λ shows. (shows.0, (lines, input, begins, (plan, c.in_ok-plan.ensures.plan, subst (λ ls. IsPlanText view plan ls shows.0) same shows.1)), shows.2))
    c.show_planned.ensures.shown

pub returns-clause-part : goal.returns-clause-part
returns-clause-part g c = λ write.
    let (lines, input, (shown, number, first)) = c.in_ok-part.ensures.shown in
    let plan = c.in_ok-plan.plan in
    let view = c.args.view in
    let same = c.deref.ensures.value ∙ shown ∙ ap (λ s. shown_lines s lines) c.slots.ensures in
    let begins : HasFirst (slots_in view) lines = subst (λ s. HasFirst s lines) c.slots.ensures first in
    let shows = c.show_planned.ensures.part write in
    (shows.0, (lines, input, begins, (plan, c.in_ok-plan.ensures.plan, subst (λ ls. IsPlanText view plan ls shows.0) same shows.1)), shows.2)
