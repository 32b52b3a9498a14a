use Rattle.std.proofs.Common.{◌+◌, arith}
use Rattle.guarantee.proofs.Starts.{LeavesAll-passed}
use Rattle.guarantee.proofs.Tables.{place-end}
use Rattle.guarantee.proofs.search.passed_before.Goals as goal

pub returns-clause-left : goal.returns-clause-left
returns-clause-left g c later at =
    let a = c.args in
    let t = g.T.SpareTable.time a.table.now in
    let spans = g.T.SpareTable.spans a.table.now in
    let most = c.demand-most.result in
    LeavesAll-passed spans a.reserve.now t a.ask.arrivals a.ask.slots a.left most (a.ask.now + a.ask.slots + a.left + most) c.min-until.result a.place.span.end later.start (omega (arith, c.requires.now)) (λ x low. c.demand-most.ensures.most x (omega arith)) (c.passed.ensures.passed later at)

pub overflow_add-ask : goal.overflow_add-ask
overflow_add-ask g c =
    let (after, within) = place-end c.requires.table c.requires.place in
    omega (arith, after, within, c.requires.now, c.requires.near, c.requires.few, c.requires.small, c.demand-most.ensures.small)

pub overflow_add-ask-2 : goal.overflow_add-ask-2
overflow_add-ask-2 g c =
    let (after, within) = place-end c.requires.table c.requires.place in
    omega (arith, after, within, c.requires.now, c.requires.near, c.requires.few, c.requires.small, c.demand-most.ensures.small)

pub overflow_add-ask-3 : goal.overflow_add-ask-3
overflow_add-ask-3 g c =
    let (after, within) = place-end c.requires.table c.requires.place in
    omega (arith, after, within, c.requires.now, c.requires.near, c.requires.few, c.requires.small, c.demand-most.ensures.small)

pub passed-requires-clause-few : goal.passed-requires-clause-few
passed-requires-clause-few g c =
    let (after, within) = place-end c.requires.table c.requires.place in
    omega (arith, after, within, c.requires.now, c.requires.near, c.requires.few, c.requires.small, c.demand-most.ensures.small)
