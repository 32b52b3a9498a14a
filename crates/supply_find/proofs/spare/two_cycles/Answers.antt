use Rattle.supply_find.proofs.Tables.{pushed}
use Rattle.supply_find.proofs.spare.two_cycles.Goals as goal

pub loop-time-preserved : goal.loop-time-preserved
loop-time-preserved c =
    pushed _ c.loop-time.due.items _ c.loop-time.time c.due_at.result c.loop-time.invariant c.in_ok-push.ensures.items c.due_at.ensures
