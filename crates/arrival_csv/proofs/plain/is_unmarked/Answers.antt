use Rattle.arrival_csv.proofs.PlainLemmas.{strip_bom-empty, strip_bom-other}
use Rattle.arrival_csv.proofs.plain.is_unmarked.Goals as goal

pub returns-in_default : goal.returns-in_default
returns-in_default c = λ unmarked. strip_bom-empty c.args.text.now c.in_default.ensures

pub returns : goal.returns
returns c = λ unmarked. strip_bom-other c.args.text.now c.in-Some.first c.in-Some.field-0-1.now c.in-Some.ensures unmarked
