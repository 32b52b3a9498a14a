use Rattle.std.proofs.Common.{◌≡◌, take}
use Rattle.margin_find.proofs.copies.copy_tasks.Given as goal

abbrev pub invariant-loop-task : goal.invariant-loop-task
invariant-loop-task l = l.copies ≡ take l.task-index l.tasks
