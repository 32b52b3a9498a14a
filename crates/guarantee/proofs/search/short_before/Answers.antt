use Rattle.std.proofs.Common.{◌+◌, arith}
use Rattle.guarantee.proofs.Segments.{found-tried, Most-level}
use Rattle.guarantee.proofs.search.short_before.Goals as goal

pub returns-clause-short : goal.returns-clause-short
returns-clause-short c reserve level =
    let a = c.args in
    found-tried reserve a.ask.now a.ask.arrivals (a.ask.slots + a.due) a.from a.until a.tried.now.level c.short_at.result c.requires.from c.if-until-from.false (omega (arith, c.if-until-from.false, c.requires.holds)) level c.short_at.ensures.short

pub returns-clause-greatest : goal.returns-clause-greatest
returns-clause-greatest c reserve level none =
    let a = c.args in
    Most-level reserve a.ask a.due a.tried.now.left c.short_at.new.tried.left a.from a.from a.until a.tried.now.level (omega arith) c.if-until-from.false (omega (arith, c.if-until-from.false, c.requires.holds)) level (c.short_at.ensures.greatest none)
