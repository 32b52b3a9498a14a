-- Items that are counted, of a list that is walked.
use Rattle.std.proofs.Common.{◌≡◌, ℕ, ◌+◌, ◌<◌, List, [], ◌∷◌, ◌++◌, length, take, get_or, sym, ap, ◌∙◌, arith, length-take}
use Rattle.std.specs.List.{enumerate_from}
use Rattle.std.proofs.lemmas.List.{take_more}
use Rattle.csv_table.proofs.RowTexts.{enumerate_from-append}

-- one more item of the list
pub take-item : {X : Type 0} (xs : List X) (i : ℕ) (x : X) → i < length xs → x ≡ get_or xs i x → take (i + 1) xs ≡ take i xs ++ x ∷ []
take-item xs i x low is = take_more xs i x low ∙ ap (λ y. take i xs ++ y ∷ []) (sym is)

-- with its number
pub counted-item : {X : Type 0} (n : ℕ) (xs : List X) (i : ℕ) (x : X) → i < length xs → x ≡ get_or xs i x → enumerate_from n (take (i + 1) xs) ≡ enumerate_from n (take i xs) ++ (n + i, x) ∷ []
counted-item n xs i x low is =
    let long = length-take i xs in
    let at : n + length (take i xs) ≡ n + i = omega arith in
    ap (enumerate_from n) (take-item xs i x low is)
    ∙ enumerate_from-append n (take i xs) (x ∷ [])
    ∙ ap (λ k. enumerate_from n (take i xs) ++ (k, x) ∷ []) at
