-- Each row has as many fields as the header.
use Rattle.std.proofs.Common.{◌≡◌, ℕ, ◌+◌, List, [], ◌∷◌, length, map, Option, Some, None, refl}
use Rattle.std.specs.Prelude.{All, option_map}
use Rattle.std.specs.List.{AllByRecursion, enumerate_from}
use Rattle.std.proofs.lemmas.List.Elements.{All-from_recursion}
use Rattle.slot_facts.proofs.Lists.Members.{AllByRecursion-append}
use Rattle.trace_lines.specs.declared.line.TraceLine.{TraceLine}
use Rattle.trace_lines.specs.declared.line.ShownSpan.{ShownSpan}
use Rattle.view_tables.specs.declared.told.Told.{Told}
use Rattle.view_tables.specs.declared.put.Table.{Table}
use Rattle.view_tables.specs.declared.put.Table.TheVariants.{Events, Spans}
use Rattle.view_tables.specs.Columns.{told_of}
use Rattle.view_tables.specs.LineRows.{event_fields, span_fields}
use Rattle.view_tables.specs.Tables.{header, row_if_any, rows_from, rows_of_line, part_rows}

-- the row has as many fields as the header
abbrev IsFull : Table → List (List ℕ) → Type 0
IsFull table row = length row ≡ length (header table)

event-full : (line : TraceLine) (told : Option Told) → AllByRecursion (IsFull Events) (row_if_any (option_map (event_fields line) told))
event-full line None = tt
event-full line (Some told) = (refl, tt)

spans-full : (n : ℕ) (line : TraceLine) (m : ℕ) (spans : List ShownSpan) → AllByRecursion (IsFull Spans) (map (span_fields n line) (enumerate_from m spans))
spans-full n line m [] = tt
spans-full n line m (span ∷ spans) = (refl, spans-full n line (m + 1) spans)

line-full : (table : Table) (n : ℕ) (line : TraceLine) → AllByRecursion (IsFull table) (rows_of_line table (n, line))
line-full Events n line = event-full line (told_of line.words)
line-full Spans n line = spans-full n line 1 line.spans

lines-full : (table : Table) (n : ℕ) (lines : List TraceLine) → AllByRecursion (IsFull table) (rows_from table n lines)
lines-full table n [] = tt
lines-full table n (line ∷ lines) =
    AllByRecursion-append (IsFull table) (rows_of_line table (n, line)) (rows_from table (n + 1) lines) (line-full table n line) (lines-full table (n + 1) lines)

pub part-square : (table : Table) (n : ℕ) (lines : List TraceLine) → All (λ row. length row ≡ length (header table)) (part_rows table n lines)
part-square table n lines =
    All-from_recursion (IsFull table) (part_rows table n lines) (refl, lines-full table n lines)
