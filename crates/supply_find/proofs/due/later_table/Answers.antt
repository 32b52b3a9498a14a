use Rattle.supply_find.proofs.Tables.{pushed}
use Rattle.supply_find.proofs.due.later_table.Goals as goal

pub loop-time-preserved : goal.loop-time-preserved
loop-time-preserved c =
    pushed _ c.loop-time.later.items _ c.loop-time.time c.later_at.result c.loop-time.invariant c.in_ok-push.ensures.items c.later_at.ensures
