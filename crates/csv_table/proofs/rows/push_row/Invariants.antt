-- The fields so far are written.
use Rattle.std.proofs.Common.{◌≡◌, ◌==◌, ◌||◌, ◌&&◌, take, not}
use Rattle.std.specs.Io.KnownBytes.{Appends}
use Rattle.csv.specs.Writing.{fields_written, has_written, is_blank, row_body, text_written, writer_setup}
use Rattle.csv_table.specs.Tables.{comma_separated}
use Rattle.csv_table.proofs.rows.push_row.Given as goal

abbrev pub invariant-loop-cell : goal.invariant-loop-cell
invariant-loop-cell g l = record {
  setup : writer_setup l.writer ≡ comma_separated;
  text : Appends (text_written g.W.Write.contents l.initial.writer) (text_written g.W.Write.contents l.writer) (row_body comma_separated (take l.cell-index l.cells));
  fields : fields_written l.writer ≡ l.cell-index;
  blank : is_blank comma_separated (take l.cell-index l.cells) ≡ (not (has_written l.writer) && ((l.cell-index == 0) || (l.cell-index == 1)));
}
