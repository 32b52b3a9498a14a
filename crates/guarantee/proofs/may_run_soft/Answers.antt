use Rattle.std.proofs.Common.{◌≤◌, length, arith}
use Rattle.slot_facts.proofs.Lists.Tests.{same_tests}
use Rattle.guarantee.specs.Offers.{soft_fits}
use Rattle.guarantee.proofs.Decisions.{fits-spare, spare-fits}
use Rattle.guarantee.proofs.may_run_soft.Goals as goal

pub returns-then-is_empty-clause-answer : goal.returns-then-is_empty-clause-answer
returns-then-is_empty-clause-answer g c =
    let table = c.has_spare.ensures.table in
    let t = g.T.SpareTable.time c.args.table.now in
    let spans = g.T.SpareTable.spans c.args.table.now in
    let some : 1 ≤ length spans = omega (arith, table.some) in
    let none = c.is_empty.ensures.empty.0 c.if-is_empty.true in
    same_tests c.has_spare.result (soft_fits spans c.args.reserve.now t)
    (λ h. spare-fits t spans c.args.reserve.now table.consecutive table.proper table.filled some c.requires.after none (c.has_spare.ensures.answer.0 h))
    (λ h. c.has_spare.ensures.answer.1 (fits-spare t spans c.args.reserve.now table.consecutive table.proper table.filled some c.requires.after none h))
