use Rattle.slot_facts.proofs.Scheduling.Fits.{a_schedule_fits_its_work}
use Rattle.service_laws.proofs.schedules.a_schedule_fits_its_work.Goals as goal

pub returns : goal.returns
returns c = a_schedule_fits_its_work
