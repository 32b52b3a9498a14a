use Rattle.trace_verify.proofs.FromVerdict.{lawful-from_verdict}
use Rattle.trace_verify.proofs.ToVerdict.{verdict-from_lawful}
use Rattle.trace_verify.proofs.laws.verdict_is_exact.Goals as goal

pub returns : goal.returns
returns c = λ set arrivals n text sound small fits. (
  (λ ok. lawful-from_verdict set arrivals n text ok),
  (λ lawful. verdict-from_lawful set arrivals n text sound small fits lawful),
)
