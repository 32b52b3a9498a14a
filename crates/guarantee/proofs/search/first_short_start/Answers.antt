use Rattle.std.proofs.Common.{◌≡◌, ◌+◌, take, refl, arith}
use Rattle.interval_row.specs.Tables.{works}
use Rattle.guarantee.proofs.Segments.{not_covered}
use Rattle.guarantee.proofs.Starts.{told-first}
use Rattle.guarantee.proofs.Tables.{due-small, IsFront-place, IsSeen-place, place-end}
use Rattle.guarantee.proofs.search.first_short_start.Goals as goal

pub first_short-short-requires-clause-front : goal.first_short-short-requires-clause-front
first_short-short-requires-clause-front g c =
    IsFront-place (g.T.SpareTable.spans c.args.table.now) c.args.place _ c.requires.place refl

pub overflow_add-ask : goal.overflow_add-ask
overflow_add-ask g c =
    let (after, within) = place-end c.requires.table c.requires.place in
    omega (arith, after, within, c.requires.now, c.requires.near, c.requires.few)

pub first_short-short-requires-clause-few : goal.first_short-short-requires-clause-few
first_short-short-requires-clause-few g c =
    let (after, within) = place-end c.requires.table c.requires.place in
    omega (arith, after, within, c.requires.now, c.requires.near, c.requires.few)

pub overflow_add-result : goal.overflow_add-result
overflow_add-result g c =
    let a = c.args in
    let short = c.first_short-short in
    let small = due-small (g.T.SpareTable.time a.table.now) (g.T.SpareTable.limit a.table.now) short.result.until (g.T.SpareTable.spans a.table.now) c.requires.table in
    omega (arith, short.ensures.works, small, c.requires.few)

pub overflow_sub-result : goal.overflow_sub-result
overflow_sub-result g c =
    let (after, within) = place-end c.requires.table c.requires.place in
    omega (arith, after, c.first_short-short.ensures.from, c.requires.now)

pub returns-clause-first : goal.returns-clause-first
returns-clause-first g c reserve quiet =
    let a = c.args in
    let t = g.T.SpareTable.time a.table.now in
    let spans = g.T.SpareTable.spans a.table.now in
    let table = c.requires.table in
    let seen = IsSeen-place table c.requires.place in
    let needed = a.ask.slots + a.place.due in
    let due : needed ≡ a.ask.slots + works (take a.place.index spans) = omega (arith, seen.due) in
    let short = c.first_short-short.result in
    let is = c.first_short-short.ensures in
    told-first spans reserve t a.ask.arrivals a.ask.slots a.ask.now (a.ask.slots + short.works) _ a.place.span.end short.until short.works quiet c.requires.now (omega (arith, seen.stands.after, seen.stands.rising, is.from)) is.from is.within is.works refl refl is.leaves is.short (λ none.
    not_covered spans reserve t a.ask.arrivals a.ask.slots a.ask.now needed a.place.span.end a.place.index a.place.span table.consecutive table.filled seen.at c.requires.now due (omega arith) c.requires.uncovered none)
