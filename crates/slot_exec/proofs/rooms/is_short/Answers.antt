use Rattle.std.proofs.Common.{◌≡◌, ◌+◌, ◌<◌, ap, ◌∙◌, arith}
use Rattle.std.proofs.lemmas.Bool.{leb-true}
use Rattle.slot_core.specs.Feasibility.Sporadics.{sporadic_demand}
use Rattle.slot_exec.proofs.RememberedRoom.{soft_fits-tight}
use Rattle.slot_exec.proofs.rooms.is_short.Goals as goal

pub returns-clause-short : goal.returns-clause-short
returns-clause-short g c short =
    let t = g.T.SpareTable.time c.args.table.now in
    let reserve = c.args.reserve.now in
    let tight = c.args.room.tight in
    let later : t < tight = omega (arith, c.if-room-now.false, c.time-now.ensures) in
    let (within, due) = c.requires.room.due later in
    let demand : c.demand.result ≡ sporadic_demand reserve.sporadics reserve.nexts (t + 1) tight = c.demand.ensures.demand ∙ ap (λ n. sporadic_demand reserve.sporadics reserve.nexts (n + 1) tight) c.time-now.ensures in
    let low = leb-true c.saturating_sub.result c.demand.result short in
    soft_fits-tight (g.T.SpareTable.spans c.args.table.now) reserve t tight later within (omega (arith, low, due, demand, c.saturating_sub.ensures, c.time-now.ensures))

pub returns-clause-tight : goal.returns-clause-tight
returns-clause-tight g c short =
    let t = g.T.SpareTable.time c.args.table.now in
    let reserve = c.args.reserve.now in
    let tight = c.args.room.tight in
    let later : t < tight = omega (arith, c.if-room-now.false, c.time-now.ensures) in
    let (within, due) = c.requires.room.due later in
    let demand : c.demand.result ≡ sporadic_demand reserve.sporadics reserve.nexts (t + 1) tight = c.demand.ensures.demand ∙ ap (λ n. sporadic_demand reserve.sporadics reserve.nexts (n + 1) tight) c.time-now.ensures in
    let low = leb-true c.saturating_sub.result c.demand.result short in
    record {
      after = later;
      within = within;
      due = due;
      short = omega (arith, low, demand, c.saturating_sub.ensures, c.time-now.ensures);
    }
