-- The rows of the tasks of the graphs so far are appended.
use Rattle.std.proofs.Common.{◌≡◌, ℕ, ◌++◌, List, Some}
use Rattle.std.specs.Prelude.{flat_map}
use Rattle.std.specs.List.{range_with_len}
use Rattle.view_stats.specs.Groups.{task_groups}
use Rattle.view_stats.proofs.GroupRows.{group_rows}
use Rattle.view_stats.proofs.put.push_graphs.Given as goal

abbrev pub invariant-loop-graph : goal.invariant-loop-graph
invariant-loop-graph l =
    (text : List ℕ) → l.initial.rows ≡ Some text
    → l.rows ≡ Some (text ++ group_rows l.tasks l.slots l.outcomes (flat_map (task_groups l.tasks) (range_with_len 0 l.graph)))
