-- The row is that of the figures of the jobs of the group.
use Rattle.std.proofs.Common.{◌≡◌, ℕ, ◌++◌, List, Some, ap, ◌∙◌}
use Rattle.std.proofs.lemmas.Result.{on_ok_weaker}
use Rattle.csv_table.specs.Tables.{row_line}
use Rattle.view_stats.specs.Figures.{figures_of}
use Rattle.view_stats.specs.StatRows.{stat_row}
use Rattle.view_stats.proofs.put.push_group.Goals as goal

pub returns : goal.returns
returns c = λ text is.
    let set = c.args.tasks.now in
    let group = c.args.group in
    let same = c.in_ok-figures.ensures ∙ ap (figures_of c.args.slots) (c.deref.ensures.value ∙ c.in_ok-own.ensures) in
    on_ok_weaker c.push_figures.result
    (λ (h : c.push_figures.new.rows ≡ Some (text ++ row_line (stat_row set group c.in_ok-figures.figures))). h ∙ ap (λ f. Some (text ++ row_line (stat_row set group f))) same)
    (c.push_figures.ensures text is)
