use Rattle.change_laws.proofs.GrantForEver.{fits_for_ever}
use Rattle.change_laws.proofs.laws.fits_for_ever.Goals as goal

pub returns : goal.returns
returns c = fits_for_ever
