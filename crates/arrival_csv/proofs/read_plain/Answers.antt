use Rattle.std.proofs.Common.{length, Ok, sym, ap, ◌∙◌}
use Rattle.std.proofs.lemmas.Bool.{eqb-true}
use Rattle.std.proofs.lemmas.List.{append-nil, nil_from_length}
use Rattle.csv.specs.Reading.{records, default_config}
use Rattle.arrival_csv.specs.SoFar.{read_with}
use Rattle.arrival_csv.proofs.PlainLemmas.{records-end}
use Rattle.arrival_csv.proofs.read_plain.Goals as goal

pub returns-then-is_empty : goal.returns-then-is_empty
returns-then-is_empty c =
    let so_far = c.loop-text.so_far in
    let text = c.after_empty_lines-text.result.now in
    let empty = nil_from_length text (eqb-true (length text) 0 (sym c.is_empty.ensures ∙ c.if-is_empty.true)) in
    let none = sym c.after_empty_lines-text.ensures ∙ ap (records default_config) empty ∙ records-end in
    sym c.loop-text.invariant.reading ∙ ap (read_with c.args.tasks.now c.args.slots so_far) none ∙ ap Ok (append-nil so_far.arrivals.items)
