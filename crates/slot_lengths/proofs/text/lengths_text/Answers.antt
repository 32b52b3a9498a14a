use Rattle.std.proofs.Common.{◌≡◌, ◌∙◌, ap}
use Rattle.std.specs.Prelude.{flat_map}
use Rattle.std.proofs.lemmas.Result.{IfOk-weaker}
use Rattle.slot_lengths.specs.Lines.{row_line, IsLengthsText}
use Rattle.slot_lengths.proofs.text.lengths_text.Goals as goal

pub returns : goal.returns
returns c =
    let rows = c.in_ok-rows.rows.items in
    let same : flat_map row_line c.deref.result.now ≡ flat_map row_line rows = ap (flat_map row_line) c.deref.ensures.value in
    IfOk-weaker c.text_of.result (λ text. text.items ≡ flat_map row_line c.deref.result.now) (λ text. IsLengthsText c.args.from c.args.to c.args.set.now text.items) (λ text is. (rows, record { all = c.in_ok-rows.ensures.all; ordered = c.in_ok-rows.ensures.ordered }, is ∙ same)) c.text_of.ensures
