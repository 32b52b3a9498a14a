-- The rows of the parts are those of all groups.
use Rattle.std.proofs.Common.{◌≡◌, ◌++◌, ℕ, List, Some, subst}
use Rattle.std.specs.Prelude.{OnOk}
use Rattle.csv_table.specs.Tables.{row_line}
use Rattle.view_stats.specs.declared.groups.Group.TheVariants.{Firm, Soft}
use Rattle.view_stats.specs.Groups.{graph_groups, sporadic_groups}
use Rattle.view_stats.specs.Tables.{group_row}
use Rattle.view_stats.proofs.GroupRows.{all-groups, group_rows}
use Rattle.view_stats.proofs.put.push_groups.Goals as goal

pub returns : goal.returns
returns c = λ text is.
    let set = c.args.tasks.now in
    let slots = c.args.slots in
    let outcomes = c.args.outcomes.now in
    let of_graphs = text ++ group_rows set slots outcomes (graph_groups set) in
    let of_sporadics = of_graphs ++ group_rows set slots outcomes (sporadic_groups set) in
    let of_firm = of_sporadics ++ row_line (group_row set slots outcomes Firm) in
    let of_soft = of_firm ++ row_line (group_row set slots outcomes Soft) in
    subst
    (λ (t : List ℕ). OnOk c.push_group-3.result (c.push_group-3.new.rows ≡ Some t))
    (all-groups set slots outcomes text)
    (c.push_group-3.ensures of_soft (c.in_ok-push_group-2.ensures of_firm (c.in_ok-push_group.ensures of_sporadics (c.in_ok-push_sporadics.ensures of_graphs (c.in_ok-push_graphs.ensures text is)))))
