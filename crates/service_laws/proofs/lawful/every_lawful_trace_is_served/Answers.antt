use Rattle.slot_facts.proofs.Lawful.Served.{every_lawful_trace_is_served}
use Rattle.service_laws.proofs.lawful.every_lawful_trace_is_served.Goals as goal

pub returns : goal.returns
returns c = every_lawful_trace_is_served
