-- The header is the one row.
use Rattle.std.proofs.Common.{◌≡◌, ℕ, ◌++◌, List, Some, sym, ap, ◌∙◌}
use Rattle.std.proofs.lemmas.Result.{on_ok_weaker}
use Rattle.csv_table.specs.Tables.{row_line}
use Rattle.view_tables.specs.Tables.{header}
use Rattle.view_tables.proofs.put.push_header.Goals as goal

-- the line of a row of these names, after some text
named : (text : List ℕ) (row names : List (List ℕ)) → row ≡ names → Some (text ++ row_line row) ≡ Some (text ++ row_line names)
named text row names same = ap (λ (r : List (List ℕ)). Some (text ++ row_line r)) same

pub returns-in-Events : goal.returns-in-Events
returns-in-Events c text is =
    on_ok_weaker c.push.result
    (λ (h : c.push.new.self ≡ Some (text ++ row_line c.event_names.result)).
    h ∙ named text c.event_names.result (header c.args.table) (c.event_names.ensures ∙ sym (ap header c.in-Events.is)))
    (c.push.ensures.text text is)

pub returns-in-Spans : goal.returns-in-Spans
returns-in-Spans c text is =
    on_ok_weaker c.push-in-Spans.result
    (λ (h : c.push-in-Spans.new.self ≡ Some (text ++ row_line c.span_names.result)).
    h ∙ named text c.span_names.result (header c.args.table) (c.span_names.ensures ∙ sym (ap header c.in-Spans.is)))
    (c.push-in-Spans.ensures.text text is)
