use Rattle.std.proofs.Common.{◌+◌, arith}
use Rattle.std.proofs.lemmas.List.{take_rest}
use Rattle.arrival_csv.proofs.PlainLemmas.{field-at_end, field-at_line}
use Rattle.arrival_csv.proofs.plain.last_field.Goals as goal

pub returns-then-end-text : goal.returns-then-end-text
returns-then-end-text c = λ before.
    let text = c.args.text.now in
    let end = c.end_of_field-end.result in
    rw (take_rest text end) (field-at_end before text c.args.start end c.end_of_field-end.ensures.place (omega (arith, c.if-end-text.true)))

pub returns : goal.returns
returns c = λ before.
    let text = c.args.text.now in
    let end = c.end_of_field-end.result in
    rw (take_rest text (end + 1)) (field-at_line before text c.args.start end c.end_of_field-end.ensures.place (omega (arith, c.if-end-text.false, c.end_of_field-end.ensures.within)) c.if-text-end-ne10.false)
