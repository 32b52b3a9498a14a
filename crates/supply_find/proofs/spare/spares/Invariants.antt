use Rattle.std.proofs.Common.{◌≡◌, ℕ, ◌+◌, ◌-◌, ◌≤◌, length, slice_index}
use Rattle.supply_find.specs.Spare.{least_by}
use Rattle.supply_find.proofs.spare.spares.Given as goal

abbrev pub invariant-loop-time : goal.invariant-loop-time
invariant-loop-time l =
    record {
      some : l.cycle ≤ l.time;
      len : length l.table.items ≡ l.cycle + 1;
      least : (k : ℕ) → k ≤ l.cycle → slice_index l.table.items k ≡ least_by l.due l.arriving l.cycle (l.time - l.cycle) k;
    }
