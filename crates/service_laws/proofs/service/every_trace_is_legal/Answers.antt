use Rattle.slot_facts.proofs.Legal.Traces.{every_trace_is_legal}
use Rattle.service_laws.proofs.service.every_trace_is_legal.Goals as goal

pub returns : goal.returns
returns c = every_trace_is_legal
