use Rattle.slot_facts.proofs.Bounds.CycleLater.{one_cycle_later_has_no_less_room}
use Rattle.service_laws.proofs.bounds.one_cycle_later_has_no_less_room.Goals as goal

pub returns : goal.returns
returns c = one_cycle_later_has_no_less_room
