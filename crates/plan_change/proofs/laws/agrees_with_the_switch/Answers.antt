use Rattle.plan_change.proofs.SwitchVerdicts.{agrees_with_the_switch}
use Rattle.plan_change.proofs.laws.agrees_with_the_switch.Goals as goal

pub returns : goal.returns
returns c = agrees_with_the_switch
