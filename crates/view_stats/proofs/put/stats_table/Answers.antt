-- The parts make the table.
use Rattle.std.proofs.Common.{◌≡◌, Some, subst, ◌∙◌}
use Rattle.std.specs.Prelude.{IfOk}
use Rattle.view_stats.proofs.Parts.{text-from_parts}
use Rattle.view_stats.proofs.put.stats_table.Goals as goal

pub returns : goal.returns
returns c =
    subst
    (λ text. IfOk c.groups_table.result (λ rows. rows ≡ Some text))
    (text-from_parts c.args.plan.now c.args.lines.now c.tasks.result.now c.time_of_last.result c.deref.result.now c.tasks.ensures.tasks c.time_of_last.ensures (c.deref.ensures.value ∙ c.in_ok-outcomes.ensures))
    c.groups_table.ensures
