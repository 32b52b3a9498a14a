use Rattle.std.proofs.Common.{◌≡◌, ◌++◌, take}
use Rattle.std.specs.Prelude.{flat_map}
use Rattle.table_codec.specs.Grammar.{task_form}
use Rattle.table_codec.proofs.writer.put_tasks.Given as goal

abbrev pub invariant-loop-task : goal.invariant-loop-task
invariant-loop-task l = l.out.items ≡ l.fn.out.items ++ flat_map (task_form l.layout 0 0).written (take l.task-index l.tasks)
