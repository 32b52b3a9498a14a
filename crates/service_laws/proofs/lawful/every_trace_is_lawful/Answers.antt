use Rattle.slot_facts.proofs.Lawful.Traces.{every_trace_is_lawful}
use Rattle.service_laws.proofs.lawful.every_trace_is_lawful.Goals as goal

pub returns : goal.returns
returns c = every_trace_is_lawful
