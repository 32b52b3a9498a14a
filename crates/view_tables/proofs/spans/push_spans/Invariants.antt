-- The rows of the spans so far are appended.
use Rattle.std.proofs.Common.{◌≡◌, ℕ, ◌++◌, List, Some, map, take}
use Rattle.std.specs.List.{enumerate_from}
use Rattle.csv_table.specs.Tables.{rows_text}
use Rattle.view_tables.specs.LineRows.{span_fields}
use Rattle.view_tables.proofs.spans.push_spans.Given as goal

abbrev pub invariant-loop-i : goal.invariant-loop-i
invariant-loop-i l = (text : List ℕ) → l.initial.rows ≡ Some text → l.rows ≡ Some (text ++ rows_text (map (span_fields l.number l.line) (enumerate_from 1 (take l.i l.spans))))
