-- Tables of the lines of a trace.
use Rattle.std.specs.Prelude.{ℕ, List, [], ◌∷◌, flat_map, Option, Some, None}
use Rattle.std.specs.List.{enumerate_from}
use Rattle.csv_table.specs.Tables.{rows_text}
use Rattle.trace_lines.specs.declared.line.TraceLine.{TraceLine}
use Rattle.view_tables.specs.declared.put.Table.{Table}
use Rattle.view_tables.specs.declared.put.Table.TheVariants.{Events, Spans}
use Rattle.view_tables.specs.LineRows.{event_names, event_row, span_names, span_rows}

-- the row, if there is one
abbrev pub row_if_any : Option (List (List ℕ)) → List (List (List ℕ))
row_if_any None = []
row_if_any (Some row) = row ∷ []

-- the rows of the line of this number: one where it tells an arrival, or one a span
abbrev pub rows_of_line : Table → ℕ × TraceLine → List (List (List ℕ))
rows_of_line Events (number, line) = row_if_any (event_row line)
rows_of_line Spans (number, line) = span_rows number line

-- the names of the fields
abbrev pub header : Table → List (List ℕ)
header Events = event_names
header Spans = span_names

-- the rows of the lines, of which the first has this number
abbrev pub rows_from : Table → ℕ → List TraceLine → List (List (List ℕ))
rows_from table number lines = flat_map (rows_of_line table) (enumerate_from number lines)

-- the rows of a table of lines, of which the first has this number: the header, and those of each
-- line
abbrev pub part_rows : Table → ℕ → List TraceLine → List (List (List ℕ))
part_rows table number lines = header table ∷ rows_from table number lines

-- the rows of a table of a whole trace
abbrev pub table_rows : Table → List TraceLine → List (List (List ℕ))
table_rows table lines = part_rows table 1 lines

-- the text of a table of lines, of which the first has this number
abbrev pub part_text : Table → ℕ → List TraceLine → List ℕ
part_text table number lines = rows_text (part_rows table number lines)

-- the text of a table of a whole trace
abbrev pub table_text : Table → List TraceLine → List ℕ
table_text table lines = part_text table 1 lines
