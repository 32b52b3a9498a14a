-- The fields of a row.
use Rattle.std.specs.Prelude.{ℕ, List, [], decimal, Option, Some, None}
use Rattle.std.specs.Fmt.{signed_decimal}
use Rattle.csv_table.specs.declared.cells.Content.{Content}
use Rattle.csv_table.specs.declared.cells.Content.TheVariants.{Empty, Number, Signed, Text}

-- the text of a field: nothing, a number in decimal digits, or a text as it is
abbrev pub content_text : Content → List ℕ
content_text Empty = []
content_text (Number n) = decimal n
content_text (Signed n) = signed_decimal n
content_text (Text bytes) = bytes.now

-- a number that may be missing: nothing where it is
abbrev pub optional_text : Option ℕ → List ℕ
optional_text (Some n) = decimal n
optional_text None = []
