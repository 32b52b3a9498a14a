-- A part of a text has its lines, or a cause.
use Rattle.std.proofs.Common.{◌≡◌, ◌⊎◌, Err, Some, sym, ap, subst, ◌∙◌}
use Rattle.command_line.specs.declared.refusal.Refusal.TheVariants.{Memory}
use Rattle.view_run.specs.Inputs.{IsUnread}
use Rattle.view_run.proofs.Causes.{of_part-cause}
use Rattle.view_run.proofs.work.lines_of_part.Goals as goal

pub returns-in-Ok-clause-shown : goal.returns-in-Ok-clause-shown
returns-in-Ok-clause-shown c =
    let (lines, text, shown, number, within) = c.in-Ok.ensures.part in (lines, text, (shown, number, within))

pub returns-in-Err-clause-refused : goal.returns-in-Err-clause-refused
returns-in-Err-clause-refused c =
    subst
    (λ e. (e ≡ Memory) ⊎ IsUnread (Some c.args.slots) (λ IsSo. IsSo c.args.bytes.now) e)
    (sym c.of_text.ensures)
    (of_part-cause c.args.slots c.args.bytes.now c.in-Err.fault (λ n same. c.read_part.ensures.fault n (c.in-Err.is ∙ ap Err same)) (λ same. c.read_part.ensures.too_many (c.in-Err.is ∙ ap Err same)) (λ n same. c.read_part.ensures.no_slot n (c.in-Err.is ∙ ap Err same)))
