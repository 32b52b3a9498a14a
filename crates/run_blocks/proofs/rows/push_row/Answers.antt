use Rattle.std.proofs.Common.{rules, ◌≡◌, true, false, ◌∷◌, refl, sym, ap, ◌∙◌, subst}
use Rattle.std.specs.List.{insert}
use Rattle.std.specs.List.Sorted.{IsPermutation}
use Rattle.std.proofs.lemmas.Bool.{false≢true}
use Rattle.std.proofs.lemmas.List.Sorted.{IsPermutation-insert}
use Rattle.run_blocks.specs.Rows.{has_row, row_of}
use Rattle.run_blocks.proofs.rows.push_row.Goals as goal

pub returns-then-has_row : goal.returns-then-has_row
returns-then-has_row c =
    let there : has_row c.args.rows.now.items c.args.key.now ≡ true = search rules in
    ((λ held. refl), (λ new. absurd (false≢true (sym new ∙ there))))

pub returns : goal.returns
returns c =
    let new : has_row c.args.rows.now.items c.args.key.now ≡ false = search rules in
    let items : c.insert.new.self.items ≡ insert c.args.rows.now.items c.place_for-place.result (row_of c.args.apart c.args.key.now) = c.in_ok-insert.ensures.items ∙ ap (insert c.args.rows.now.items c.place_for-place.result) c.row_of-row.ensures in
    let permuted = IsPermutation-insert c.args.rows.now.items c.place_for-place.result (row_of c.args.apart c.args.key.now) in
    ((λ held. absurd (false≢true (sym new ∙ held))), (λ none. subst (IsPermutation (row_of c.args.apart c.args.key.now ∷ c.args.rows.now.items)) (sym items) permuted))
