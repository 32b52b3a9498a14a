use Rattle.std.proofs.Common.{◌+◌, arith}
use Rattle.std.proofs.lemmas.List.{take_rest}
use Rattle.arrival_csv.proofs.QuickLemmas.{EndsRow-at_end, EndsRow-at_line}
use Rattle.arrival_csv.proofs.quick.after_row.Goals as goal

pub returns-then-place-text : goal.returns-then-place-text
returns-then-place-text c =
    rw (take_rest c.args.text.now c.args.place) (EndsRow-at_end c.args.text.now c.args.place (omega (arith, c.if-place-text.true)))

pub returns : goal.returns
returns c =
    rw (take_rest c.args.text.now (c.args.place + 1)) (EndsRow-at_line c.args.text.now c.args.place (omega (arith, c.requires, c.if-place-text.false)) c.if-text-place-ne10.false)
