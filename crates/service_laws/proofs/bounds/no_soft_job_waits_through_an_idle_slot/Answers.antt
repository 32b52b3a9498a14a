use Rattle.slot_facts.proofs.Legal.IdleSlots.{no_soft_job_waits_through_an_idle_slot}
use Rattle.service_laws.proofs.bounds.no_soft_job_waits_through_an_idle_slot.Goals as goal

pub returns : goal.returns
returns c = no_soft_job_waits_through_an_idle_slot
