use Rattle.margin_find.proofs.Growths.{less_growth_fits}
use Rattle.margin_find.proofs.laws.less_growth_fits.Goals as goal

pub returns : goal.returns
returns c = less_growth_fits
