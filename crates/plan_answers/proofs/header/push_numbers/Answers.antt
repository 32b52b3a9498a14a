use Rattle.std.proofs.Common.{◌≡◌, ◌++◌, ℕ, List, codes, ap, append_assoc, ◌∙◌}
use Rattle.std.proofs.lemmas.Result.{on_ok_weaker}
use Rattle.plan_answers.specs.Headers.{enumerator}
use Rattle.plan_answers.proofs.header.push_numbers.Goals as goal

regroup : (o a b c d : List ℕ) → (((o ++ a) ++ b) ++ c) ++ d ≡ o ++ (((a ++ b) ++ c) ++ d)
regroup o a b c d = simp append_assoc

pub returns : goal.returns
returns c =
    let cycle = enumerator (codes "CYCLE") c.args.cycle in
    let soft = enumerator (codes "SOFT") c.args.soft in
    let arena = enumerator (codes "ARENA") c.args.arena in
    let table = enumerator (codes "TABLE_BYTES") c.args.table in
    let second = c.in_ok-push_number-2.ensures ∙ ap (λ (l : List ℕ). l ++ soft) c.in_ok-push_number.ensures in
    let third = c.in_ok-push_number-3.ensures ∙ ap (λ (l : List ℕ). l ++ arena) second in
    on_ok_weaker c.push_number-4.result (λ told. told ∙ ap (λ (l : List ℕ). l ++ table) third ∙ regroup c.args.text.now.items cycle soft arena table) c.push_number-4.ensures
