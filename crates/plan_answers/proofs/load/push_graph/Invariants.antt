-- The lines of the tasks so far are appended.
use Rattle.std.proofs.Common.{◌≡◌, ◌+◌, ◌*◌, ◌++◌, take}
use Rattle.std.specs.Prelude.{flat_map}
use Rattle.plan_answers.specs.Loads.{task_line}
use Rattle.plan_answers.proofs.load.push_graph.Given as goal

abbrev pub invariant-loop-task : goal.invariant-loop-task
invariant-loop-task l = l.text.items ≡ l.initial.text.items ++ flat_map (task_line l.cycle l.graph) (take l.task-index l.graph.tasks)
