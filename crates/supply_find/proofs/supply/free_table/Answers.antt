use Rattle.supply_find.proofs.Tables.{pushed}
use Rattle.supply_find.proofs.supply.free_table.Goals as goal

pub loop-slots-preserved : goal.loop-slots-preserved
loop-slots-preserved c =
    pushed _ c.loop-slots.free.items _ c.loop-slots.slots c.free_at.result c.loop-slots.invariant c.in_ok-push.ensures.items c.free_at.ensures
