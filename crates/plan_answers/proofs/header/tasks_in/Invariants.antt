use Rattle.std.proofs.Common.{◌≡◌, ◌≤◌, ◌*◌, length, take}
use Rattle.std.specs.Prelude.{sum_by}
use Rattle.slot_core.specs.declared.TheConstants.{TASK_LIMIT}
use Rattle.slot_core.specs.declared.tasks.Graph.{Graph}
use Rattle.plan_answers.proofs.header.tasks_in.Given as goal

abbrev pub invariant-loop-graph : goal.invariant-loop-graph
invariant-loop-graph l = record {
  summed : l.count ≡ sum_by (λ (g : Graph). length g.tasks) (take l.graph-index l.graphs);
  few : l.count ≤ l.graph-index * TASK_LIMIT;
}
