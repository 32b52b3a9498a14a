use Rattle.std.proofs.Common.{◌≡◌, ◌+◌, ◌++◌}
use Rattle.std.specs.Prelude.{flat_map}
use Rattle.std.specs.List.{range_with_len}
use Rattle.task_rows.specs.Marks.{window_marks}
use Rattle.task_rows.proofs.marks.push_task.Given as goal

abbrev pub invariant-loop-n : goal.invariant-loop-n
invariant-loop-n l =
    l.marks.items ≡ l.initial.marks.items ++ flat_map (λ n. window_marks l.graph l.row (l.first + n)) (range_with_len 0 l.n)
