use Rattle.slot_facts.proofs.Offers.Verdicts.{the_verdict_means_schedules}
use Rattle.service_laws.proofs.verdicts.the_verdict_means_schedules.Goals as goal

pub returns : goal.returns
returns c = the_verdict_means_schedules
