use Rattle.std.proofs.Common.{◌∙◌, slice_get, ap, sym, arith}
use Rattle.guarantee.proofs.Tables.{IsPlace-later, IsSeen-place}
use Rattle.guarantee.proofs.walk.after.Goals as goal

pub overflow_add-index : goal.overflow_add-index
overflow_add-index g c =
    let seen = IsSeen-place c.count-count.ensures.table c.requires.place in
    omega (arith, seen.few)

pub overflow_add-result : goal.overflow_add-result
overflow_add-result g c =
    let seen = IsSeen-place c.count-count.ensures.table c.requires.place in
    omega (arith, seen.small, seen.stands.work)

pub returns-clause-place : goal.returns-clause-place
returns-clause-place g c =
    let spans = g.T.SpareTable.spans c.args.table.now in
    IsPlace-later spans c.args.place c.spot-at.result c.read.result c.requires.place c.spot-at.ensures (ap (slice_get spans) (sym c.spot-at.ensures) ∙ c.read.ensures.span)
