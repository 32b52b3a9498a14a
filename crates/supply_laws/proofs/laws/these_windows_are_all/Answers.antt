use Rattle.supply_laws.proofs.FewWindows.{these_windows_are_all}
use Rattle.supply_laws.proofs.laws.these_windows_are_all.Goals as goal

pub returns : goal.returns
returns c = these_windows_are_all
