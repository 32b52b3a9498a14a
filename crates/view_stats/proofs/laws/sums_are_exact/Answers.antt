-- No counter comes to its end.
use Rattle.view_stats.proofs.Ranks.{total-exact}
use Rattle.view_stats.proofs.laws.sums_are_exact.Goals as goal

pub returns : goal.returns
returns c = total-exact
