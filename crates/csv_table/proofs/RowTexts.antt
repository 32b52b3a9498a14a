-- The text of rows grows with them.
use Rattle.std.proofs.Common.{◌≡◌, ℕ, ◌+◌, List, [], ◌∷◌, ◌++◌, append-nil, append_assoc, length, sym, ap, ◌∙◌, arith}
use Rattle.std.specs.List.{enumerate_from}
use Rattle.std.proofs.lemmas.Grind.{flat_map-append}
use Rattle.csv_table.specs.Tables.{row_line, rows_text}

-- rows and then others
pub rows_text-append : (xs ys : List (List (List ℕ))) → rows_text (xs ++ ys) ≡ rows_text xs ++ rows_text ys
rows_text-append xs ys = flat_map-append row_line xs ys

-- after some text, rows and then one more
pub rows_text-more : (text : List ℕ) (xs : List (List (List ℕ))) (x : List (List ℕ)) → (text ++ rows_text xs) ++ row_line x ≡ text ++ rows_text (xs ++ x ∷ [])
rows_text-more text xs x =
    append_assoc text (rows_text xs) (row_line x)
    ∙ ap (λ t. text ++ t) (ap (λ t. rows_text xs ++ t) (sym (append-nil (row_line x))) ∙ sym (rows_text-append xs (x ∷ [])))

-- one row
pub rows_text-one : (x : List (List ℕ)) → rows_text (x ∷ []) ≡ row_line x
rows_text-one x = append-nil (row_line x)

-- and then others
pub rows_text-on : (text : List ℕ) (xs ys : List (List (List ℕ))) → (text ++ rows_text xs) ++ rows_text ys ≡ text ++ rows_text (xs ++ ys)
rows_text-on text xs ys =
    append_assoc text (rows_text xs) (rows_text ys) ∙ ap (λ t. text ++ t) (sym (rows_text-append xs ys))

-- items numbered one after the other, and then others
pub enumerate_from-append : {X : Type 0} (n : ℕ) (xs ys : List X) → enumerate_from n (xs ++ ys) ≡ enumerate_from n xs ++ enumerate_from (n + length xs) ys
enumerate_from-append n [] ys = ap (λ k. enumerate_from k ys) (omega arith)
enumerate_from-append n (x ∷ xs) ys =
    let on : n + 1 + length xs ≡ n + length (x ∷ xs) = omega arith in
    ap (λ ps. (n, x) ∷ ps) (enumerate_from-append (n + 1) xs ys ∙ ap (λ k. enumerate_from (n + 1) xs ++ enumerate_from k ys) on)
