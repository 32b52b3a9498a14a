use Rattle.std.proofs.Common.{◌≡◌, ◌*◌, ◌^◌, ◌≤◌, take}
use Rattle.std.specs.Prelude.{sum_by}
use Rattle.slot_core.specs.declared.TheConstants.{SLOT_LIMIT, TASK_LIMIT}
use Rattle.demand_test.specs.Totals.{graph_work}
use Rattle.demand_test.proofs.offline.offline_slots.Given as goal

abbrev pub invariant-loop-graph : goal.invariant-loop-graph
invariant-loop-graph l =
    (l.slots ≡ sum_by (graph_work l.cycle) (take l.graph-index l.graphs))
    × (l.slots ≤ l.graph-index * (2 ^ 32 * (TASK_LIMIT * SLOT_LIMIT)))
