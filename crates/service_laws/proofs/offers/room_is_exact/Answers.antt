use Rattle.slot_facts.proofs.Offers.Room.{room_is_exact}
use Rattle.service_laws.proofs.offers.room_is_exact.Goals as goal

pub returns : goal.returns
returns c = room_is_exact
