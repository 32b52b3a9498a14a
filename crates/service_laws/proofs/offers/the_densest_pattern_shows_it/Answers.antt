use Rattle.slot_facts.proofs.Offers.Room.{the_densest_pattern_shows_it}
use Rattle.service_laws.proofs.offers.the_densest_pattern_shows_it.Goals as goal

pub returns : goal.returns
returns c = the_densest_pattern_shows_it
