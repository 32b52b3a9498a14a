-- The text has its lines, or a cause.
use Rattle.std.proofs.Common.{◌≡◌, ◌⊎◌, Err, sym, ap, subst, ◌∙◌}
use Rattle.command_line.specs.declared.refusal.Refusal.TheVariants.{Memory}
use Rattle.view_run.specs.Supplies.{IsNoSupply}
use Rattle.view_run.proofs.Causes.{of_supply-cause}
use Rattle.view_run.proofs.supply.steps_of.Goals as goal

pub returns-in-Err-clause-refused : goal.returns-in-Err-clause-refused
returns-in-Err-clause-refused c =
    subst
    (λ e. (e ≡ Memory) ⊎ IsNoSupply (λ IsSo. IsSo c.args.bytes.now) e)
    (sym c.of_supply.ensures)
    (of_supply-cause c.args.bytes.now c.in-Err.fault (λ n same. c.read_stairs.ensures.fault n (c.in-Err.is ∙ ap Err same)))
