use Rattle.mode_switch.proofs.ServedChanges.{changes_are_served}
use Rattle.mode_switch.proofs.laws.changes_are_served.Goals as goal

pub returns : goal.returns
returns c = changes_are_served
