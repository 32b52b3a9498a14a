use Rattle.std.proofs.Common.{◌∙◌, ◌∷◌, []}
use Rattle.std.specs.List.{slice_range}
use Rattle.arrival_csv.specs.Kinds.{kind_word}
use Rattle.arrival_csv.proofs.QuickLemmas.{number_read, word_read, records-number, WritesEvent-from_parts}
use Rattle.arrival_csv.proofs.quick.quick_row.Goals as goal

pub returns : goal.returns
returns c =
    let text = c.args.text.now in
    let slot = c.in_ok-slot.slot in
    let kind = c.in_ok-kind.kind in
    let told = c.in_ok-told.told in
    let first = slice_range text 0 slot.end in
    let second = kind_word kind in
    let number = c.in_ok-slot.ensures in
    let (later, read, writes) = c.in_ok-told.ensures in
    let fields = first ∷ second ∷ later in
    let row = number_read [] text 0 _ _ slot.value slot.end number ∙ c.in_ok-after_comma.ensures.1 [] first ∙ word_read (first ∷ []) text _ kind c.in_ok-kind.start c.in_ok-kind.ensures ∙ read (first ∷ second ∷ []) in
    (fields, records-number text _ _ slot.value slot.end fields told.rest.now number row, WritesEvent-from_parts c.args.tasks.now first kind later slot.value told.event number.written writes)
