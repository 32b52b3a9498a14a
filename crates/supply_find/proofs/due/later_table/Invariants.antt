use Rattle.std.proofs.Common.{◌≡◌, ◌+◌, ◌-◌, ◌*◌, min, map, slice_index}
use Rattle.std.specs.List.{range_with_len}
use Rattle.supply_find.proofs.due.later_table.Given as goal

abbrev pub invariant-loop-time : goal.invariant-loop-time
invariant-loop-time l =
    l.later.items ≡ map (λ b. slice_index l.due (min (b - l.cycle) l.cycle) + slice_index l.due (b - 2 * l.cycle)) (range_with_len 0 l.time)
