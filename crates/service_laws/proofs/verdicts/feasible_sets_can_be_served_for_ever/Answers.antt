use Rattle.slot_facts.proofs.Offers.Verdicts.{feasible_sets_can_be_served_for_ever}
use Rattle.service_laws.proofs.verdicts.feasible_sets_can_be_served_for_ever.Goals as goal

pub returns : goal.returns
returns c = feasible_sets_can_be_served_for_ever
