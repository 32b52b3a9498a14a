use Rattle.std.proofs.Common.{◌≡◌, ◌≤◌, length, drop}
use Rattle.std.specs.Prelude.{All}
use Rattle.slot_core.specs.declared.jobs.Job.{Job}
use Rattle.supply_find.specs.Keys.{IsCounted}
use Rattle.supply_find.proofs.supply.count_from.Given as goal

abbrev pub invariant-loop-left : goal.invariant-loop-left
invariant-loop-left l =
    record {
      within : l.left ≤ l.front;
      len : length l.due.items ≡ length l.initial.due.items;
      counted : IsCounted l.jobs l.left l.due.items;
      later : All (λ (j : Job). l.from ≤ j.est) (drop l.left l.jobs);
    }

abbrev pub decreases-loop-left : goal.decreases-loop-left
decreases-loop-left l = l.left
