-- The row is appended.
use Rattle.std.proofs.Common.{◌≡◌, ℕ, ◌++◌, List, Some, ap, ◌∙◌}
use Rattle.std.proofs.lemmas.Result.{on_ok_weaker}
use Rattle.csv_table.specs.Tables.{row_line}
use Rattle.view_stats.proofs.rows.push_figures.Goals as goal

pub returns : goal.returns
returns c text is =
    on_ok_weaker c.push.result
    (λ (h : c.push.new.self ≡ Some (text ++ row_line c.cells.result)). h ∙ ap (λ (r : List (List ℕ)). Some (text ++ row_line r)) c.cells.ensures)
    (c.push.ensures.text text is)
