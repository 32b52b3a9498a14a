use Rattle.std.proofs.Common.{refl}
use Rattle.slot_exec.proofs.AheadRooms.{tight-found}
use Rattle.slot_exec.proofs.rooms.search.Goals as goal

pub returns-in-Short-clause-room : goal.returns-in-Short-clause-room
returns-in-Short-clause-room g c =
    let (first, after, within, work) = c.in-Short.ensures.short _ _ refl in
    record {
      free = c.requires.room.free;
      due = λ later. (within, work);
    }

pub returns-in-Short-clause-tight : goal.returns-in-Short-clause-tight
returns-in-Short-clause-tight g c fails =
    let (first, after, within, work) = c.in-Short.ensures.short _ _ refl in
    tight-found (g.T.SpareTable.spans c.args.table.now) c.args.reserve.now (g.T.SpareTable.time c.args.table.now) _ first after within work
