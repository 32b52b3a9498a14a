-- The one row is appended.
use Rattle.std.proofs.Common.{◌≡◌, ℕ, ◌++◌, List, Some, Option, sym, ap, ◌∙◌}
use Rattle.std.specs.Prelude.{option_map}
use Rattle.std.proofs.lemmas.Result.{on_ok_weaker}
use Rattle.csv_table.specs.Tables.{row_line, rows_text}
use Rattle.csv_table.proofs.RowTexts.{rows_text-one}
use Rattle.trace_lines.specs.declared.line.TraceLine.{TraceLine}
use Rattle.view_tables.specs.declared.told.Told.{Told}
use Rattle.view_tables.specs.LineRows.{event_fields, event_row}
use Rattle.view_tables.specs.Tables.{row_if_any}
use Rattle.view_tables.proofs.events.push_event.Goals as goal

pub returns : goal.returns
returns c text is =
    let line : TraceLine = c.args.line.now in
    let same : rows_text (row_if_any (event_row line)) ≡ row_line c.event_cells.result =
    ap (λ (told : Option Told). rows_text (row_if_any (option_map (event_fields line) told))) (sym c.in-Some.ensures)
    ∙ rows_text-one (event_fields line c.in-Some.told)
    ∙ ap (λ (row : List (List ℕ)). row_line row) (sym c.event_cells.ensures) in
    on_ok_weaker c.push.result (λ (h : c.push.new.self ≡ Some (text ++ row_line c.event_cells.result)). h ∙ ap (λ t. Some (text ++ t)) (sym same)) (c.push.ensures.text text is)
