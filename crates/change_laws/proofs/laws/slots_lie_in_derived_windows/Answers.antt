use Rattle.change_laws.proofs.GrantWindows.{slots_lie_in_derived_windows}
use Rattle.change_laws.proofs.laws.slots_lie_in_derived_windows.Goals as goal

pub returns : goal.returns
returns c = slots_lie_in_derived_windows
