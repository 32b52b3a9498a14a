use Rattle.margin_find.proofs.Growths.{windows_only_shrink}
use Rattle.margin_find.proofs.laws.windows_only_shrink.Goals as goal

pub returns : goal.returns
returns c = windows_only_shrink
