-- The row of the next one is appended.
use Rattle.std.proofs.Common.{◌≡◌, ℕ, ◌++◌, List, Some, ap, ◌∙◌}
use Rattle.std.specs.Prelude.{map}
use Rattle.std.specs.List.{range_with_len}
use Rattle.view_stats.specs.declared.groups.Group.TheVariants.{Task}
use Rattle.view_stats.proofs.GroupRows.{group_rows, numbered-next}
use Rattle.view_stats.proofs.put.push_tasks.Goals as goal

pub loop-task-preserved : goal.loop-task-preserved
loop-task-preserved c = λ text is.
    c.in_ok-push_group.ensures (text ++ group_rows c.args.tasks.now c.args.slots c.args.outcomes.now (map (Task c.args.graph) (range_with_len 0 c.loop-task.task))) (c.loop-task.invariant text is)
    ∙ ap (λ (t : List ℕ). Some t) (numbered-next c.args.tasks.now c.args.slots c.args.outcomes.now text (Task c.args.graph) c.loop-task.task)
