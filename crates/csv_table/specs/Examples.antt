-- Worked rows.
use Rattle.std.specs.Prelude.{◌≡◌, [], ◌∷◌, codes, refl}
use Rattle.csv.specs.Writing.{escaped, fields_text, is_blank}
use Rattle.csv_table.specs.Tables.{row_line, rows_text}

-- a comma between two fields, and a line feed alone at the end
pub two_fields : row_line (codes "4" ∷ codes "g.a#0" ∷ []) ≡ codes "4,g.a#0\n"
unfolding escaped fields_text is_blank
two_fields = refl

-- an empty field, and a second row
pub two_rows :
    rows_text ((codes "4" ∷ [] ∷ []) ∷ (codes "5" ∷ codes "6" ∷ []) ∷ []) ≡ codes "4,\n5,6\n"
unfolding escaped fields_text is_blank
two_rows = refl

-- a field with a comma and a quote in it
pub a_quote : row_line (codes "a,\"b" ∷ []) ≡ codes "\"a,\"\"b\"\n"
unfolding escaped fields_text is_blank
a_quote = refl
