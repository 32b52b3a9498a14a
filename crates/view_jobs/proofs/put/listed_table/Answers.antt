-- The header is the first row, and the rows of the jobs follow.
use Rattle.std.proofs.Common.{List, ℕ, [], Some, ap, ◌∙◌}
use Rattle.csv_table.specs.Tables.{row_line}
use Rattle.view_jobs.specs.JobRows.{job_names}
use Rattle.view_jobs.proofs.put.listed_table.Goals as goal

pub returns : goal.returns
returns c =
    c.in_ok-push_jobs.ensures
    (row_line job_names)
    (c.in_ok-push.ensures.text [] c.new-rows.ensures ∙ ap (λ (row : List (List ℕ)). Some (row_line row)) c.job_names.ensures)
