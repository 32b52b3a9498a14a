use Rattle.slot_facts.proofs.Offers.Verdicts.{the_densest_pattern_shows_the_failure}
use Rattle.service_laws.proofs.verdicts.the_densest_pattern_shows_the_failure.Goals as goal

pub returns : goal.returns
returns c = the_densest_pattern_shows_the_failure
