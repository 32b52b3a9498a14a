use Rattle.change_laws.proofs.GrantWindows.{a_schedule_fits_each_window}
use Rattle.change_laws.proofs.laws.a_schedule_fits_each_window.Goals as goal

pub returns : goal.returns
returns c = a_schedule_fits_each_window
