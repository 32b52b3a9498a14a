use Rattle.std.proofs.Common.{refl}
use Rattle.guarantee.proofs.Tables.{IsFront-place, MayPass-reached}
use Rattle.guarantee.proofs.walk.passed.Goals as goal

pub skip-requires-clause-front : goal.skip-requires-clause-front
skip-requires-clause-front g c =
    IsFront-place (g.T.SpareTable.spans c.args.table.now) c.args.place _ c.requires.place refl

pub returns-clause-passed : goal.returns-clause-passed
returns-clause-passed g c later at =
    let t = g.T.SpareTable.time c.args.table.now in
    let spans = g.T.SpareTable.spans c.args.table.now in
    let is = c.skip.ensures in
    MayPass-reached t c.args.asked c.args.until c.skip.result.count spans c.args.place later c.requires.table.consecutive c.requires.place at is.later (is.reached later at) (is.leaves later at)
