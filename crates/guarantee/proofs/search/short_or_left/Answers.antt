use Rattle.std.proofs.Common.{arith}
use Rattle.guarantee.proofs.Decisions.{OnOk-map}
use Rattle.interval_row.proofs.CutTimes.{ends_before-inside}
use Rattle.guarantee.proofs.Places.{ends_before-few}
use Rattle.guarantee.proofs.search.short_or_left.Goals as goal

pub returns-clause-none_soon : goal.returns-clause-none_soon
returns-clause-none_soon g c told none =
    let t = g.T.SpareTable.time c.args.table.now in
    let place = c.place_of-place.result in
    let is = c.place_of-place.ensures in
    let count = ends_before-inside t c.args.from place.index (g.T.SpareTable.spans c.args.table.now) place.span is.table.consecutive is.place.span is.early is.reached in
    OnOk-map c.short_or_left_on.result _ _ (c.short_or_left_on.ensures.none_soon told none) (λ same. omega (arith, is.few_steps, same))

pub returns-clause-places : goal.returns-clause-places
returns-clause-places g c =
    let t = g.T.SpareTable.time c.args.table.now in
    let table = c.place_of-place.ensures.table in
    ends_before-few t c.args.from (g.T.SpareTable.spans c.args.table.now) table.consecutive table.proper c.requires.after
