use Rattle.slot_facts.proofs.Scheduling.Safe.{safe_jobs_have_a_schedule}
use Rattle.service_laws.proofs.schedules.safe_jobs_have_a_schedule.Goals as goal

pub returns : goal.returns
returns c = safe_jobs_have_a_schedule
