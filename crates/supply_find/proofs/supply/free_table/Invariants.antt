use Rattle.std.proofs.Common.{◌≡◌, ◌+◌, ◌-◌, ◌/◌, map, slice_index}
use Rattle.std.specs.List.{range_with_len}
use Rattle.supply_find.specs.declared.supply.TheConstants.{WEIGHT}
use Rattle.supply_find.proofs.supply.free_table.Given as goal

abbrev pub invariant-loop-slots : goal.invariant-loop-slots
invariant-loop-slots l =
    l.free.items ≡ map (λ n. n - (slice_index l.most n / WEIGHT + slice_index l.arriving n)) (range_with_len 0 l.slots)
