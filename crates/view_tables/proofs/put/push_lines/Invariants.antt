-- The rows of the lines so far are appended.
use Rattle.std.proofs.Common.{◌≡◌, ℕ, ◌++◌, List, Some, take}
use Rattle.csv_table.specs.Tables.{rows_text}
use Rattle.view_tables.specs.Tables.{rows_from}
use Rattle.view_tables.proofs.put.push_lines.Given as goal

abbrev pub invariant-loop-i : goal.invariant-loop-i
invariant-loop-i l = (text : List ℕ) → l.initial.rows ≡ Some text → l.rows ≡ Some (text ++ rows_text (rows_from l.table l.number (take l.i l.lines)))
