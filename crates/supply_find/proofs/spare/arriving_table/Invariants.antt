use Rattle.std.proofs.Common.{◌≡◌, ℕ, ◌^◌, ◌≤◌, map, slice_index}
use Rattle.std.specs.List.{range_with_len}
use Rattle.supply_laws.specs.Spare.{arrivals_within}
use Rattle.supply_find.proofs.spare.arriving_table.Given as goal

abbrev pub invariant-loop-slots : goal.invariant-loop-slots
invariant-loop-slots l =
    record {
      table : l.arriving.items ≡ map (arrivals_within l.sporadics) (range_with_len 0 l.slots);
      small : (b : ℕ) → slice_index l.arriving.items b ≤ 2 ^ 31;
    }
