use Rattle.std.proofs.Common.{◌≡◌, ℕ, ◌+◌, ◌*◌, ◌≤◌, length, slice_index}
use Rattle.supply_find.specs.Keys.{window_key, IsCounted, IsSplit, IsGreatest}
use Rattle.supply_find.proofs.supply.most_keys.Given as goal

abbrev pub invariant-loop-from : goal.invariant-loop-from
invariant-loop-from l =
    record {
      low : l.from ≤ l.cycle;
      front : l.front ≤ length l.jobs;
      due : length l.due.items ≡ l.cycle + 1;
      counted : IsCounted l.jobs l.front l.due.items;
      split : IsSplit l.jobs l.from l.front;
      most : length l.most.items ≡ 2 * l.cycle + 1;
      greatest : (n : ℕ) → n ≤ 2 * l.cycle → IsGreatest (window_key l.jobs l.cycle n) l.from l.cycle (slice_index l.most.items n);
    }

abbrev pub decreases-loop-from : goal.decreases-loop-from
decreases-loop-from l = l.from
