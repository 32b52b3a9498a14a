-- This task is not on a loop.
use Rattle.std.proofs.Common.{◌+◌, ◌-◌, length, sym, ◌∙◌, arith}
use Rattle.slot_core.specs.Offline.Precedence.{is_on_loop}
use Rattle.window_derive.specs.Orders.{first_on_loop}
use Rattle.window_derive.proofs.LoopLemmas.{find_later}
use Rattle.window_derive.proofs.loops.first_on_loop.Goals as goal

pub loop-task-preserved : goal.loop-task-preserved
loop-task-preserved c =
    let tasks = c.args.tasks.now in
    let task = c.loop-task.task in
    find_later (is_on_loop tasks) task (length tasks - task) (length tasks - (task + 1)) (first_on_loop tasks) (omega arith) (sym c.is_on_loop.ensures ∙ c.if-is_on_loop.false) c.loop-task.invariant
