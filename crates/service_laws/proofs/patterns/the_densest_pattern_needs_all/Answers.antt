use Rattle.slot_facts.proofs.Patterns.Densest.{the_densest_pattern_needs_all}
use Rattle.service_laws.proofs.patterns.the_densest_pattern_needs_all.Goals as goal

pub returns : goal.returns
returns c = the_densest_pattern_needs_all
