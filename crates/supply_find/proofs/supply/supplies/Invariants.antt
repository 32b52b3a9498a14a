use Rattle.std.proofs.Common.{◌≡◌, map}
use Rattle.std.specs.List.{range_with_len}
use Rattle.supply_find.specs.Keys.{entry_of}
use Rattle.supply_find.proofs.supply.supplies.Given as goal

abbrev pub invariant-loop-within : goal.invariant-loop-within
invariant-loop-within l =
    l.table ≡ map (entry_of l.most l.free l.shortest l.cycle) (range_with_len 0 l.within)
