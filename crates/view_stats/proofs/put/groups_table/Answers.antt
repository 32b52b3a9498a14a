-- The header is the first row, and the rows of the groups follow.
use Rattle.std.proofs.Common.{List, ℕ, [], Some, ap, ◌∙◌}
use Rattle.csv_table.specs.Tables.{row_line}
use Rattle.view_stats.specs.StatRows.{stat_names}
use Rattle.view_stats.proofs.put.groups_table.Goals as goal

pub returns : goal.returns
returns c =
    c.in_ok-push_groups.ensures
    (row_line stat_names)
    (c.in_ok-push.ensures.text [] c.new-rows.ensures ∙ ap (λ (row : List (List ℕ)). Some (row_line row)) c.stat_names.ensures)
