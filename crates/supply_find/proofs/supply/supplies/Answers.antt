use Rattle.supply_find.proofs.Tables.{pushed}
use Rattle.supply_find.proofs.supply.supplies.Goals as goal

pub loop-within-preserved : goal.loop-within-preserved
loop-within-preserved c =
    pushed _ c.loop-within.table _ c.loop-within.within c.entry_at.result c.loop-within.invariant c.in_ok-push.ensures.ok c.entry_at.ensures
