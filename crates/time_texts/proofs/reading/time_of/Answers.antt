use Rattle.std.proofs.Common.{sym, ◌∙◌}
use Rattle.time_texts.proofs.Readings.{IsTime-from_read, time_of_text-from_IsTime}
use Rattle.time_texts.proofs.reading.time_of.Goals as goal

pub returns-clause-exact : goal.returns-clause-exact
returns-clause-exact c = λ time. (
  (λ found. IsTime-from_read c.args.text.now time (sym c.read_time.ensures.reading ∙ found)),
  (λ is. c.read_time.ensures.reading ∙ time_of_text-from_IsTime c.args.text.now time is),
)
