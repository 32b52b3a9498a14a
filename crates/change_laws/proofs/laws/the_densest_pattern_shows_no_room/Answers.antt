use Rattle.change_laws.proofs.GrantRefusals.{the_densest_pattern_shows_no_room}
use Rattle.change_laws.proofs.laws.the_densest_pattern_shows_no_room.Goals as goal

pub returns : goal.returns
returns c = the_densest_pattern_shows_no_room
