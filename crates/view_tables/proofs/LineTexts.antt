-- The rows of lines, one line more or some more.
use Rattle.std.proofs.Common.{◌≡◌, ℕ, ◌+◌, ◌<◌, List, [], ◌∷◌, ◌++◌, append-nil, length, take, get_or, map, sym, ap, ◌∙◌}
use Rattle.std.specs.Prelude.{flat_map}
use Rattle.std.specs.List.{enumerate_from}
use Rattle.std.proofs.lemmas.Grind.{flat_map-append}
use Rattle.std.proofs.lemmas.List.{map-append}
use Rattle.csv_table.specs.Tables.{row_line, rows_text}
use Rattle.csv_table.proofs.RowTexts.{rows_text-more, rows_text-on}
use Rattle.trace_lines.specs.declared.line.TraceLine.{TraceLine}
use Rattle.trace_lines.specs.declared.line.ShownSpan.{ShownSpan}
use Rattle.view_tables.specs.declared.put.Table.{Table}
use Rattle.view_tables.specs.LineRows.{span_fields}
use Rattle.view_tables.specs.Tables.{rows_from, rows_of_line}
use Rattle.view_tables.proofs.Counted.{counted-item}

-- one line more
pub rows_from-more : (table : Table) (n : ℕ) (xs : List TraceLine) (i : ℕ) (x : TraceLine) → i < length xs → x ≡ get_or xs i x → rows_from table n (take (i + 1) xs) ≡ rows_from table n (take i xs) ++ rows_of_line table (n + i, x)
rows_from-more table n xs i x low is =
    ap (flat_map (rows_of_line table)) (counted-item n xs i x low is)
    ∙ flat_map-append (rows_of_line table) (enumerate_from n (take i xs)) ((n + i, x) ∷ [])
    ∙ ap (λ rows. rows_from table n (take i xs) ++ rows) (append-nil (rows_of_line table (n + i, x)))

-- after some text
pub line_rows-more : (table : Table) (text : List ℕ) (n : ℕ) (xs : List TraceLine) (i : ℕ) (x : TraceLine) → i < length xs → x ≡ get_or xs i x → (text ++ rows_text (rows_from table n (take i xs))) ++ rows_text (rows_of_line table (n + i, x)) ≡ text ++ rows_text (rows_from table n (take (i + 1) xs))
line_rows-more table text n xs i x low is =
    rows_text-on text (rows_from table n (take i xs)) (rows_of_line table (n + i, x))
    ∙ ap (λ rows. text ++ rows_text rows) (sym (rows_from-more table n xs i x low is))

-- one span more of a line
pub span_rows-more : (text : List ℕ) (n : ℕ) (line : TraceLine) (xs : List ShownSpan) (i : ℕ) (x : ShownSpan) (row : List (List ℕ)) → i < length xs → x ≡ get_or xs i x → row ≡ span_fields n line (1 + i, x) → (text ++ rows_text (map (span_fields n line) (enumerate_from 1 (take i xs)))) ++ row_line row ≡ text ++ rows_text (map (span_fields n line) (enumerate_from 1 (take (i + 1) xs)))
span_rows-more text n line xs i x row low is fields =
    let before = map (span_fields n line) (enumerate_from 1 (take i xs)) in
    rows_text-more text before row
    ∙ ap (λ (r : List (List ℕ)). text ++ rows_text (before ++ r ∷ [])) fields
    ∙ ap (λ rows. text ++ rows_text rows) (sym (ap (map (span_fields n line)) (counted-item 1 xs i x low is) ∙ map-append (span_fields n line) (enumerate_from 1 (take i xs)) ((1 + i, x) ∷ [])))
