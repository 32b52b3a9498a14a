use Rattle.slot_facts.proofs.Scheduling.Fits.{slots_lie_before_derived_deadlines}
use Rattle.service_laws.proofs.schedules.slots_lie_before_derived_deadlines.Goals as goal

pub returns : goal.returns
returns c = slots_lie_before_derived_deadlines
