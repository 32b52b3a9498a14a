use Rattle.margin_find.proofs.Growths.{margins_are_unique}
use Rattle.margin_find.proofs.laws.margins_are_unique.Goals as goal

pub returns : goal.returns
returns c = margins_are_unique
