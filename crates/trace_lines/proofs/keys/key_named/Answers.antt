use Rattle.std.proofs.Common.{◌∙◌, sym, ap}
use Rattle.trace_lines.specs.Readings.{key_named}
use Rattle.trace_lines.proofs.KeyReads.{keys}
use Rattle.trace_lines.proofs.keys.key_named.Goals as goal

pub returns-clause-exact : goal.returns-clause-exact
returns-clause-exact c = λ key. (
  (λ found. keys.from c.args.text.now key (sym c.read_key.ensures ∙ found)),
  (λ is. c.read_key.ensures ∙ ap key_named is.1 ∙ keys.to key is.0),
)
