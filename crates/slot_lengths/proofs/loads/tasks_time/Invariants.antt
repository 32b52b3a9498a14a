use Rattle.std.proofs.Common.{◌≡◌, ◌*◌, ◌^◌, ◌≤◌, take}
use Rattle.std.specs.Prelude.{sum_by}
use Rattle.clock_units.specs.declared.sets.PhysicalTask.{PhysicalTask}
use Rattle.slot_lengths.proofs.loads.tasks_time.Given as goal

abbrev pub invariant-loop-task : goal.invariant-loop-task
invariant-loop-task l =
    (l.time ≡ sum_by (λ (t : PhysicalTask). t.wcet) (take l.task-index l.tasks))
    × (l.time ≤ l.task-index * 2 ^ 64)
