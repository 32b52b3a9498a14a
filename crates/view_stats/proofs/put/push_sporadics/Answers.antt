-- The row of the next one is appended.
use Rattle.std.proofs.Common.{◌≡◌, ℕ, ◌++◌, List, Some, ap, ◌∙◌}
use Rattle.std.specs.Prelude.{map}
use Rattle.std.specs.List.{range_with_len}
use Rattle.view_stats.specs.declared.groups.Group.TheVariants.{Sporadic}
use Rattle.view_stats.proofs.GroupRows.{group_rows, numbered-next}
use Rattle.view_stats.proofs.put.push_sporadics.Goals as goal

pub loop-index-preserved : goal.loop-index-preserved
loop-index-preserved c = λ text is.
    c.in_ok-push_group.ensures (text ++ group_rows c.args.tasks.now c.args.slots c.args.outcomes.now (map (Sporadic) (range_with_len 0 c.loop-index.index))) (c.loop-index.invariant text is)
    ∙ ap (λ (t : List ℕ). Some t) (numbered-next c.args.tasks.now c.args.slots c.args.outcomes.now text (Sporadic) c.loop-index.index)
