use Rattle.slot_facts.proofs.Scheduling.Fits.{slots_lie_after_derived_starts}
use Rattle.service_laws.proofs.schedules.slots_lie_after_derived_starts.Goals as goal

pub returns : goal.returns
returns c = slots_lie_after_derived_starts
