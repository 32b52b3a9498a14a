-- No task so far is on a loop.
use Rattle.std.proofs.Common.{◌≡◌, ◌-◌, length}
use Rattle.std.specs.Prelude.{find}
use Rattle.std.specs.List.{range_with_len}
use Rattle.slot_core.specs.Offline.Precedence.{is_on_loop}
use Rattle.window_derive.specs.Orders.{first_on_loop}
use Rattle.window_derive.proofs.loops.first_on_loop.Given as goal

abbrev pub invariant-loop-task : goal.invariant-loop-task
invariant-loop-task l =
    find (is_on_loop l.tasks) (range_with_len l.task (length l.tasks - l.task)) ≡ first_on_loop l.tasks
