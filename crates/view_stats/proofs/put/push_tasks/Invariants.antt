-- The rows of the tasks so far are appended.
use Rattle.std.proofs.Common.{◌≡◌, ℕ, ◌++◌, List, Some}
use Rattle.std.specs.Prelude.{map}
use Rattle.std.specs.List.{range_with_len}
use Rattle.view_stats.specs.declared.groups.Group.TheVariants.{Task}
use Rattle.view_stats.proofs.GroupRows.{group_rows}
use Rattle.view_stats.proofs.put.push_tasks.Given as goal

abbrev pub invariant-loop-task : goal.invariant-loop-task
invariant-loop-task l =
    (text : List ℕ) → l.initial.rows ≡ Some text
    → l.rows ≡ Some (text ++ group_rows l.tasks l.slots l.outcomes (map (Task l.graph) (range_with_len 0 l.task)))
