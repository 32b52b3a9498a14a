-- A whole text has its lines, or a cause.
use Rattle.std.proofs.Common.{◌≡◌, ◌⊎◌, Err, None, refl, sym, ap, subst, ◌∙◌}
use Rattle.command_line.specs.declared.refusal.Refusal.TheVariants.{Memory}
use Rattle.view_run.specs.Inputs.{IsUnread}
use Rattle.view_run.proofs.Causes.{of_text-cause}
use Rattle.view_run.proofs.work.all_lines.Goals as goal

pub returns-in-Ok-clause-shown : goal.returns-in-Ok-clause-shown
returns-in-Ok-clause-shown c = (c.in-Ok.lines.items, (c.in-Ok.ensures.trace, c.in-Ok.ensures.text), (refl, refl, tt))

pub returns-in-Err-clause-refused : goal.returns-in-Err-clause-refused
returns-in-Err-clause-refused c =
    subst
    (λ e. (e ≡ Memory) ⊎ IsUnread None (λ IsSo. IsSo c.args.bytes.now) e)
    (sym c.of_text.ensures)
    (of_text-cause c.args.bytes.now c.in-Err.fault (λ n same. c.read_trace.ensures.fault n (c.in-Err.is ∙ ap Err same)) (λ same. c.read_trace.ensures.too_many (c.in-Err.is ∙ ap Err same)) (λ n same. c.read_trace.ensures.no_slot n (c.in-Err.is ∙ ap Err same)))
