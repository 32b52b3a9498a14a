use Rattle.supply_find.proofs.SpareTables.{pushed-small}
use Rattle.supply_find.proofs.Tables.{pushed}
use Rattle.supply_find.proofs.spare.arriving_table.Goals as goal

pub loop-slots-preserved : goal.loop-slots-preserved
loop-slots-preserved c =
    record {
      table = pushed _ c.loop-slots.arriving.items _ c.loop-slots.slots c.arrivals_within.result c.loop-slots.invariant.table c.in_ok-push.ensures.items c.arrivals_within.ensures.value;
      small = pushed-small c.loop-slots.arriving.items _ c.arrivals_within.result _ c.in_ok-push.ensures.items c.loop-slots.invariant.small c.arrivals_within.ensures.small;
    }
