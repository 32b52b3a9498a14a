-- The longest chains before the tasks so far, and 0 at the others.
use Rattle.std.proofs.Common.{◌≡◌, length, take}
use Rattle.slot_core.specs.declared.TheConstants.{TASK_LIMIT}
use Rattle.window_derive.proofs.ChainArrays.{AreBefore}
use Rattle.window_derive.proofs.chains.chains_before.Given as goal

abbrev pub invariant-loop-task : goal.invariant-loop-task
invariant-loop-task l = record {
  long : length l.before ≡ TASK_LIMIT;
  so_far : AreBefore l.tasks (take l.task-index l.order) l.before;
}
