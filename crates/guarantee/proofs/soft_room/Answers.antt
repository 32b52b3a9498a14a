use Rattle.std.proofs.Common.{◌≡◌, ◌+◌, ◌-◌, ◌^◌, None, Some, ap, ◌∙◌, arith}
use Rattle.slot_core.specs.Feasibility.Sporadics.{sporadic_demand}
use Rattle.guarantee.proofs.Decisions.{free-all, free-greatest, told-fits, IsTold-search, IsTold-short}
use Rattle.guarantee.proofs.soft_room.Goals as goal

pub demand-demand-requires-clause-soon : goal.demand-demand-requires-clause-soon
demand-demand-requires-clause-soon g c =
    let t = g.T.SpareTable.time c.args.table.now in
    let told = IsTold-search (g.T.SpareTable.spans c.args.table.now) c.args.reserve.now t c.time-next.result c.in-Err.evidence c.time-next.ensures c.in-Err.ensures.first c.requires.after in
    omega (arith, told.within, c.requires.near)

pub returns-in-Ok-clause-answer : goal.returns-in-Ok-clause-answer
returns-in-Ok-clause-answer g c =
    told-fits (g.T.SpareTable.spans c.args.table.now) c.args.reserve.now (g.T.SpareTable.time c.args.table.now) c.time-next.result None c.time-next.ensures c.in-Ok.ensures.first

pub returns-in-Err-clause-answer : goal.returns-in-Err-clause-answer
returns-in-Err-clause-answer g c =
    told-fits (g.T.SpareTable.spans c.args.table.now) c.args.reserve.now (g.T.SpareTable.time c.args.table.now) c.time-next.result (Some c.in-Err.evidence) c.time-next.ensures c.in-Err.ensures.first

pub returns-in-Err-clause-short : goal.returns-in-Err-clause-short
returns-in-Err-clause-short g c until due same =
    let t = g.T.SpareTable.time c.args.table.now in
    let told = IsTold-search (g.T.SpareTable.spans c.args.table.now) c.args.reserve.now t c.time-next.result c.in-Err.evidence c.time-next.ensures c.in-Err.ensures.first c.requires.after in
    let next : c.time-next.result + 1 ≡ t + 1 = omega (arith, c.time-next.ensures) in
    let spo = c.demand-demand.ensures.demand ∙ ap (λ n. sporadic_demand c.args.reserve.now.sporadics c.args.reserve.now.nexts n c.in-Err.evidence.until) next in
    IsTold-short (g.T.SpareTable.spans c.args.table.now) c.args.reserve.now t c.demand-demand.result until due c.in-Err.evidence told spo same

pub returns-in-Ok-clause-greatest : goal.returns-in-Ok-clause-greatest
returns-in-Ok-clause-greatest g c free more same needed leaves =
    let t = g.T.SpareTable.time c.args.table.now in
    free-greatest (g.T.SpareTable.spans c.args.table.now) c.args.reserve.now t c.time-next.result (2 ^ 64 - 1) c.in-Ok.left free more c.time-next.ensures c.in-Ok.ensures.greatest (omega (arith, c.requires.near)) c.requires.after same needed leaves

pub returns-in-Ok-clause-all_free : goal.returns-in-Ok-clause-all_free
returns-in-Ok-clause-all_free g c free same nothing =
    let t = g.T.SpareTable.time c.args.table.now in
    free-all (g.T.SpareTable.spans c.args.table.now) c.args.reserve.now t c.time-next.result (2 ^ 64 - 1) c.in-Ok.left free c.time-next.ensures c.in-Ok.ensures.greatest c.in-Ok.ensures.told (omega (arith, c.requires.near)) c.requires.after same nothing
