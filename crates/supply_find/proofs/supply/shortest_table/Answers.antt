use Rattle.std.proofs.Common.{refl, arith}
use Rattle.supply_find.proofs.Tables.{searched-step}
use Rattle.supply_find.proofs.supply.shortest_table.Goals as goal

pub loop-place-preserved : goal.loop-place-preserved
loop-place-preserved c =
    searched-step c.args.numbers.now c.loop-place.place _ c.loop-place.best c.lesser_of-best.result c.loop-place.shortest.items _ c.loop-place.invariant (omega arith) c.lesser_of-best.ensures refl
