-- The header is the first row, and the rows of the lines follow.
use Rattle.std.proofs.Common.{[]}
use Rattle.csv_table.specs.Tables.{row_line}
use Rattle.view_tables.specs.Tables.{header}
use Rattle.view_tables.proofs.put.whole_table.Goals as goal

pub returns : goal.returns
returns c =
    c.in_ok-push_lines.ensures (row_line (header c.args.table)) (c.in_ok-push_header.ensures [] c.new-rows.ensures)
