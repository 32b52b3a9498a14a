-- This task is not next.
use Rattle.std.proofs.Common.{◌+◌, ◌-◌, length, sym, ◌∙◌, arith}
use Rattle.window_derive.specs.Marks.{is_next_by, next_by}
use Rattle.window_derive.proofs.LoopLemmas.{find_later}
use Rattle.window_derive.proofs.places.next_task.Goals as goal

pub loop-task-preserved : goal.loop-task-preserved
loop-task-preserved c =
    let tasks = c.args.tasks.now in
    let placed = c.args.placed.now in
    let task = c.loop-task.task in
    find_later (is_next_by tasks placed) task (length tasks - task) (length tasks - (task + 1)) (next_by tasks placed) (omega arith) (sym c.is_next.ensures ∙ c.if-is_next.false) c.loop-task.invariant
