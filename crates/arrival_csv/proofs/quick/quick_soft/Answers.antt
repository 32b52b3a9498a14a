use Rattle.std.proofs.Common.{◌∙◌, ◌∷◌, [], refl}
use Rattle.std.specs.List.{slice_range}
use Rattle.arrival_csv.proofs.QuickLemmas.{number_read}
use Rattle.arrival_csv.proofs.quick.quick_soft.Goals as goal

pub returns : goal.returns
returns c = λ set.
    let text = c.args.text.now in
    let slots = c.in_ok-slots.slots in
    let field = slice_range text c.args.start slots.end in
    let number = c.in_ok-slots.ensures in
    (field ∷ [], λ before. number_read before text c.args.start _ _ slots.value slots.end number ∙ c.in_ok-after_row.ensures before field, λ row. rw number.written refl)
