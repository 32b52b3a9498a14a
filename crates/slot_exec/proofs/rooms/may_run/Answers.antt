use Rattle.std.proofs.Common.{sym, arith}
use Rattle.slot_exec.proofs.RememberedRoom.{soft_fits-free}
use Rattle.slot_exec.proofs.rooms.may_run.Goals as goal

pub returns-then-room-ge1-clause-answer : goal.returns-then-room-ge1-clause-answer
returns-then-room-ge1-clause-answer g c =
    sym (soft_fits-free (g.T.SpareTable.spans c.args.table.now) c.args.reserve.now (g.T.SpareTable.time c.args.table.now) c.args.room c.requires.room (omega (arith, c.if-room-ge1.true)))

pub returns-then-is_empty-clause-tight : goal.returns-then-is_empty-clause-tight
returns-then-is_empty-clause-tight g c fails some =
    absurd (some (c.is_empty.ensures.empty.0 c.if-is_empty.true))
