use Rattle.slot_facts.proofs.Offers.Room.{room_gives_a_schedule}
use Rattle.service_laws.proofs.offers.room_gives_a_schedule.Goals as goal

pub returns : goal.returns
returns c = room_gives_a_schedule
