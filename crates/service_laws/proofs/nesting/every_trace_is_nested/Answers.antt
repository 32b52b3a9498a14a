use Rattle.service_laws.proofs.Stacks.{every_trace_is_nested}
use Rattle.service_laws.proofs.nesting.every_trace_is_nested.Goals as goal

pub returns : goal.returns
returns c = every_trace_is_nested
