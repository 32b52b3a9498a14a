use Rattle.std.proofs.Common.{◌≡◌, ◌-◌, ◌≤◌, filter, length, max}
use Rattle.std.specs.List.{range_with_len}
use Rattle.supply_find.specs.Stairs.{is_flat_end}
use Rattle.supply_find.proofs.stairs.flat_ends.Given as goal

abbrev pub invariant-loop-place : goal.invariant-loop-place
invariant-loop-place l =
    record {
      some : 1 ≤ l.place;
      most : l.place ≤ max 1 (length l.numbers);
      ends : l.ends ≡ filter (is_flat_end l.numbers) (range_with_len 1 (l.place - 1));
    }
