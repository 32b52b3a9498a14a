use Rattle.slot_facts.proofs.Legal.Served.{every_trace_is_served}
use Rattle.service_laws.proofs.service.every_trace_is_served.Goals as goal

pub returns : goal.returns
returns c = every_trace_is_served
