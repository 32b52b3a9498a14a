use Rattle.std.proofs.Common.{◌+◌, ◌≤◌, arith}
use Rattle.trace_verify.proofs.LeftSums.{left_before-by, left_before-le}
use Rattle.trace_verify.proofs.OfferFacts.{evidence-found, evidence-none}
use Rattle.trace_verify.proofs.offers.short_from.Goals as goal

pub overflow_add-work : goal.overflow_add-work
overflow_add-work c =
    omega (arith, c.due_at-work.ensures, c.loop-x.invariant.work, left_before-le c.args.jobs.now (c.loop-x.x + 1), c.requires.small, c.ranges.slots)

pub overflow_add-evidence : goal.overflow_add-evidence
overflow_add-evidence c =
    omega (arith, c.due_at-work.ensures, c.loop-x.invariant.work, left_before-le c.args.jobs.now (c.loop-x.x + 1), c.requires.small, c.ranges.slots, c.demand_from-known.ensures.small)

pub returns-then-evidence : goal.returns-then-evidence
returns-then-evidence c =
    let reserve = c.args.reserve.now in
    let jobs = c.args.jobs.now in
    let x = c.loop-x.x in
    let here : x ≤ x = omega arith in
    let needed = c.demand_from-known.ensures.demand x here c.demand_from-known.ensures.after in
    evidence-found reserve.sporadics reserve.nexts c.args.now c.args.slots jobs c.args.times.0 c.args.times.1 x (c.loop-x.work + c.due_at-work.result + c.demand_from-known.result.0) c.loop-x.auto.x (omega (arith, c.loop-x-test.true)) c.loop-x.invariant.passed (omega (arith, c.loop-x.invariant.work, c.due_at-work.ensures, left_before-by jobs x, needed)) c.if-evidence.true

pub returns : goal.returns
returns c =
    let reserve = c.args.reserve.now in
    evidence-none reserve.sporadics reserve.nexts c.args.now c.args.slots c.args.jobs.now c.args.times.0 c.args.times.1 c.loop-x.x (omega (arith, c.loop-x-test.false)) c.loop-x.invariant.passed
