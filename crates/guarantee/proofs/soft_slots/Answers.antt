use Rattle.std.proofs.Common.{arith}
use Rattle.guarantee.proofs.Decisions.{slots-left, slots-short}
use Rattle.guarantee.proofs.soft_slots.Goals as goal

pub returns-in-Ok-clause-leaves : goal.returns-in-Ok-clause-leaves
returns-in-Ok-clause-leaves g c some =
    slots-left (g.T.SpareTable.spans c.args.table.now) c.args.reserve.now (g.T.SpareTable.time c.args.table.now) c.args.taken _ c.in-Ok.left (omega (arith, c.time.ensures, c.from.ensures)) c.in-Ok.ensures.left

pub returns-in-Err-clause-short : goal.returns-in-Err-clause-short
returns-in-Err-clause-short g c none =
    slots-short (g.T.SpareTable.spans c.args.table.now) c.args.reserve.now (g.T.SpareTable.time c.args.table.now) c.args.taken _ c.in-Err._evidence (omega (arith, c.time.ensures, c.from.ensures)) c.in-Err.ensures.first
