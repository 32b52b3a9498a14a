-- No task so far is next.
use Rattle.std.proofs.Common.{◌≡◌, ◌-◌, length}
use Rattle.std.specs.Prelude.{find}
use Rattle.std.specs.List.{range_with_len}
use Rattle.window_derive.specs.Marks.{is_next_by, next_by}
use Rattle.window_derive.proofs.places.next_task.Given as goal

abbrev pub invariant-loop-task : goal.invariant-loop-task
invariant-loop-task l =
    find (is_next_by l.tasks l.placed) (range_with_len l.task (length l.tasks - l.task)) ≡ next_by l.tasks l.placed
