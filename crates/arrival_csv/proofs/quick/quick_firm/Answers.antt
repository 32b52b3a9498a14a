use Rattle.std.proofs.Common.{◌∙◌, ◌∷◌, ◌++◌, [], refl, append_assoc}
use Rattle.std.specs.List.{slice_range}
use Rattle.arrival_csv.proofs.QuickLemmas.{number_read}
use Rattle.arrival_csv.proofs.quick.quick_firm.Goals as goal

pub returns : goal.returns
returns c = λ set.
    let text = c.args.text.now in
    let slots = c.in_ok-slots.slots in
    let within = c.in_ok-within.within in
    let next = c.in_ok-next.next in
    let third = slice_range text c.args.start slots.end in
    let fourth = slice_range text next within.end in
    let first = c.in_ok-slots.ensures in
    let second = c.in_ok-within.ensures in (
      third ∷ fourth ∷ [],
      λ before.
          let goes = number_read before text c.args.start _ _ slots.value slots.end first ∙ c.in_ok-next.ensures.1 before third in
          let ends = number_read (before ++ (third ∷ [])) text next _ _ within.value within.end second ∙ c.in_ok-after_row.ensures (before ++ (third ∷ [])) fourth in
          rw append_assoc at (goes ∙ ends),
      λ row. rw (first.written, second.written) refl,
    )
