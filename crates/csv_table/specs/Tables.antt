-- The text of a table.
use Rattle.std.specs.Prelude.{ℕ, List, flat_map, true}
use Rattle.csv.specs.Writing.{default_writer, row_text}
use Rattle.csv.specs.declared.parser.Terminator.TheVariants as term
use Rattle.csv.specs.declared.writer.WriterBuilder.{WriterBuilder}

-- how a row is written: as RFC 4180 has it, but with a line feed alone at the end. A comma stands
-- between two fields; a field with a comma, a quote or a line break in it stands in double quotes,
-- and each quote in it is doubled
abbrev pub comma_separated : WriterBuilder
comma_separated = record default_writer { terminator = term.Any 10; flexible = true }

-- the line of a row, which is a list of fields
abbrev pub row_line : List (List ℕ) → List ℕ
row_line row = row_text comma_separated row

-- the text of rows: a line for each
abbrev pub rows_text : List (List (List ℕ)) → List ℕ
rows_text rows = flat_map row_line rows
