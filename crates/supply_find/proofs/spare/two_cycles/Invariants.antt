use Rattle.std.proofs.Common.{◌≡◌, map}
use Rattle.std.specs.List.{range_with_len}
use Rattle.supply_find.proofs.SpareTables.{two_of}
use Rattle.supply_find.proofs.spare.two_cycles.Given as goal

abbrev pub invariant-loop-time : goal.invariant-loop-time
invariant-loop-time l = l.due.items ≡ map (two_of l.first l.cycle) (range_with_len 0 l.time)
