use Rattle.std.proofs.Common.{◌≡◌, ℕ, ◌<◌, max, min, fold, length, map, slice_index}
use Rattle.std.specs.Prelude.{nat_lt, if◌then◌else◌}
use Rattle.std.specs.List.{range_with_len}
use Rattle.supply_find.specs.Spare.{most_by, spare_by}
use Rattle.supply_find.proofs.spare.keep_lesser.Given as goal

abbrev pub invariant-loop-slots : goal.invariant-loop-slots
invariant-loop-slots l =
    record {
      len : length l.table.items ≡ length l.initial.table.items;
      most : l.most ≡ fold max 0 (map (spare_by l.due l.arriving l.time) (range_with_len 0 l.slots));
      kept : (k : ℕ) → k < length l.initial.table.items → slice_index l.table.items k ≡ (if nat_lt k l.slots then min (slice_index l.initial.table.items k) (most_by l.due l.arriving k l.time) else slice_index l.initial.table.items k);
    }
