use Rattle.std.proofs.Common.{◌≡◌, ◌*◌, ◌^◌, ◌≤◌, take}
use Rattle.supply_laws.specs.Spare.{arrivals_within}
use Rattle.supply_find.proofs.spare.arrivals_within.Given as goal

abbrev pub invariant-loop-task : goal.invariant-loop-task
invariant-loop-task l =
    record {
      value : l.sum ≡ arrivals_within (take l.task-index l.sporadics) l.slots;
      small : l.sum ≤ l.task-index * 2 ^ 28;
    }
