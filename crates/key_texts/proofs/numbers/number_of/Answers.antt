use Rattle.std.proofs.Common.{◌∙◌, sym}
use Rattle.key_texts.proofs.DigitLemmas.{number_of-decimal, decimal-number_of}
use Rattle.key_texts.proofs.numbers.number_of.Goals as goal

pub returns-clause-exact : goal.returns-clause-exact
returns-clause-exact c = λ n. (
  (λ found. number_of-decimal n c.args.text.now (sym c.number_between.ensures ∙ found)),
  (λ (small, is). c.number_between.ensures ∙ decimal-number_of n c.args.text.now small is),
)
