use Rattle.std.proofs.Common.{◌+◌, arith}
use Rattle.std.proofs.lemmas.Bool.{leb-true}
use Rattle.guarantee.proofs.Segments.{LeavesAll-growth}
use Rattle.guarantee.proofs.search.leaves_by_growth.Goals as goal

pub returns : goal.returns
returns c =
    let a = c.args in
    let needed = a.ask.now + a.ask.slots + a.due + a.tried.left + (a.tried.level.demand + c.most_within.result) in
    record {
      leaves = λ reserve fits growth level. LeavesAll-growth reserve a.ask a.due a.tried.left a.at a.until a.tried.level (omega (arith, c.if-level-eq0.false)) growth level (omega (arith, leb-true needed a.at fits, c.most_within.ensures.most));
    }
