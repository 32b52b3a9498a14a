-- The rows of the tasks of the next graph are appended.
use Rattle.std.proofs.Common.{◌≡◌, ℕ, ◌++◌, List, Some, ap, ◌∙◌}
use Rattle.std.specs.Prelude.{flat_map}
use Rattle.std.specs.List.{range_with_len}
use Rattle.view_stats.specs.Groups.{task_groups}
use Rattle.view_stats.proofs.GroupRows.{graph-next, group_rows}
use Rattle.view_stats.proofs.put.push_graphs.Goals as goal

pub loop-graph-preserved : goal.loop-graph-preserved
loop-graph-preserved c = λ text is.
    let so_far = text ++ group_rows c.args.tasks.now c.args.slots c.args.outcomes.now (flat_map (task_groups c.args.tasks.now) (range_with_len 0 c.loop-graph.graph)) in
    c.in_ok-push_tasks.ensures so_far (c.loop-graph.invariant text is)
    ∙ ap (λ (t : List ℕ). Some t) (graph-next c.args.tasks.now c.args.slots c.args.outcomes.now text c.loop-graph.graph _ (c.deref.ensures.value ∙ c.in_ok-own.ensures))
