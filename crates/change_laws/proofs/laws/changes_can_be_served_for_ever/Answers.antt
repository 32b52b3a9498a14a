use Rattle.change_laws.proofs.GrantForEver.{changes_can_be_served_for_ever}
use Rattle.change_laws.proofs.laws.changes_can_be_served_for_ever.Goals as goal

pub returns : goal.returns
returns c = changes_can_be_served_for_ever
