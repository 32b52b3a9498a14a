use Rattle.std.proofs.Common.{length, arith}
use Rattle.guarantee.specs.Offers.{need_until}
use Rattle.guarantee.specs.Stretches.{LeavesAll}
use Rattle.guarantee.proofs.Starts.{LeavesAll-none}
use Rattle.guarantee.proofs.Tables.{later-more, next-start, past-start, place-end}
use Rattle.guarantee.proofs.search.onward.Goals as goal

pub returns-then-place-clause-last : goal.returns-then-place-clause-last
returns-then-place-clause-last g c =
    later-more c.args.place (length (g.T.SpareTable.spans c.args.table.now)) c.after.result c.after.ensures.last

pub returns-then-place-clause-left : goal.returns-then-place-clause-left
returns-then-place-clause-left g c =
    let a = c.args in
    let t = g.T.SpareTable.time a.table.now in
    let spans = g.T.SpareTable.spans a.table.now in
    let need = need_until spans a.reserve.now a.ask.arrivals in
    next-start t spans a.place c.after.result (λ x. LeavesAll need t a.ask.slots a.left a.place.span.end x) c.requires.table.consecutive c.requires.place c.after.ensures.last c.after.ensures.place (LeavesAll-none need t a.ask.slots a.left a.place.span.end)

pub returns-clause-left : goal.returns-clause-left
returns-clause-left g c =
    let a = c.args in
    let t = g.T.SpareTable.time a.table.now in
    let spans = g.T.SpareTable.spans a.table.now in
    let need = need_until spans a.reserve.now a.ask.arrivals in
    let front = c.passed_at_once-front in
    past-start t front.result.count spans a.place c.past.result (λ x. LeavesAll need t a.ask.slots a.left a.place.span.end x) c.requires.table.consecutive c.requires.place c.past.ensures.place c.past.ensures.index front.ensures.later front.ensures.left (LeavesAll-none need t a.ask.slots a.left a.place.span.end)

pub has_long_spans-requires : goal.has_long_spans-requires
has_long_spans-requires g c =
    let (after, within) = place-end c.requires.table c.requires.place in
    omega (arith, after, within, c.requires.now)
