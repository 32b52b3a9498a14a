use Rattle.slot_facts.proofs.Bounds.OneSlot.{one_slot_keeps_the_bounds}
use Rattle.service_laws.proofs.bounds.one_slot_keeps_the_bounds.Goals as goal

pub returns : goal.returns
returns c = one_slot_keeps_the_bounds
