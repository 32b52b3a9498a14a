use Rattle.std.proofs.Common.{◌≡◌, ◌∷◌, ◌∙◌, sym, ap}
use Rattle.csv.specs.Reading.{records, default_config}
use Rattle.arrival_csv.proofs.PlainLemmas.{records-empty_line}
use Rattle.arrival_csv.proofs.plain.after_empty_lines.Goals as goal

pub loop-rest-preserved : goal.loop-rest-preserved
loop-rest-preserved c =
    let rest = c.in-Some-eq10-default.rest.now in
    let line : c.loop-rest.text.now ≡ 10 ∷ rest = c.in-Some-eq10-default.ensures ∙ ap (λ first. first ∷ rest) c.in-Some-eq10-default.field-0-0-test in
    sym (records-empty_line rest) ∙ sym (ap (records default_config) line) ∙ c.loop-rest.invariant
