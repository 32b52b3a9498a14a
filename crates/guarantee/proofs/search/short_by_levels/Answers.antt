use Rattle.std.proofs.Common.{◌≡◌, ℕ, ◌+◌, None, sym, ap, ◌∙◌, subst, arith}
use Rattle.std.specs.Option.{option_map}
use Rattle.guarantee.specs.declared.search.Level.{Level}
use Rattle.guarantee.specs.Stretches.{evidence_of, IsLevelFrom, LeavesAllBetween}
use Rattle.guarantee.proofs.Segments.{demand, found-before, found-first, found-none, found-past, IsLevelFrom-later, Leaves-all, Leaves-join, Leaves-part, LeavesAll-last, Most-parts}
use Rattle.guarantee.proofs.search.short_by_levels.Goals as goal

pub returns-in-Some-clause-short : goal.returns-in-Some-clause-short
returns-in-Some-clause-short c =
    let a = c.args in
    found-first a.reserve.now a.ask.now a.ask.arrivals (a.ask.slots + a.due) a.from c.max-at.result a.until c.in-Some.evidence (omega (arith, c.max-at.ensures)) (omega (arith, c.max-at.ensures, c.requires.some, c.requires.ends)) (c.in-Some.ensures.short a.reserve.now c.requires.level)

pub returns-then-leaves_by_growth-clause-short : goal.returns-then-leaves_by_growth-clause-short
returns-then-leaves_by_growth-clause-short c =
    let a = c.args in
    let at = c.max-at.result in
    let needed = a.ask.slots + a.due in
    let left = c.short_before.new.tried.left in
    let level = subst (λ (n : Level). IsLevelFrom a.reserve.now a.ask.arrivals at n) (sym c.in_default.ensures.level) (IsLevelFrom-later a.reserve.now a.ask.arrivals a.from at a.tried.now.level (omega (arith, c.max-at.ensures)) c.requires.level) in
    let all = c.leaves_by_growth.ensures.leaves a.reserve.now c.if-leaves_by_growth.true c.requires.growth level in
    let past = found-past a.reserve.now a.ask.now a.ask.arrivals needed a.from at a.until (omega (arith, c.max-at.ensures)) (omega (arith, c.max-at.ensures, c.requires.some, c.requires.ends)) (c.in_default.ensures.short a.reserve.now c.requires.level) in
    sym (ap (option_map (evidence_of a.reserve.now a.ask.now a.ask.arrivals needed)) (past ∙ found-none a.reserve.now a.ask a.due left at a.until all))

pub returns-then-leaves_by_growth-clause-left : goal.returns-then-leaves_by_growth-clause-left
returns-then-leaves_by_growth-clause-left c none =
    let a = c.args in
    let at = c.max-at.result in
    let need : ℕ → ℕ = λ x. a.due + demand a.reserve.now a.ask.arrivals x in
    let left = c.short_before.new.tried.left in
    let level = subst (λ (n : Level). IsLevelFrom a.reserve.now a.ask.arrivals at n) (sym c.in_default.ensures.level) (IsLevelFrom-later a.reserve.now a.ask.arrivals a.from at a.tried.now.level (omega (arith, c.max-at.ensures)) c.requires.level) in
    let all = c.leaves_by_growth.ensures.leaves a.reserve.now c.if-leaves_by_growth.true c.requires.growth level in
    Leaves-join need a.ask.now a.ask.slots left a.from at a.until (c.short_before.ensures.left a.reserve.now c.requires.level c.in_default.is) (Leaves-all need a.ask.now a.ask.slots left at a.until all)

pub returns-then-leaves_by_growth-clause-greatest : goal.returns-then-leaves_by_growth-clause-greatest
returns-then-leaves_by_growth-clause-greatest c none more few leaves =
    let a = c.args in
    let at = c.max-at.result in
    let need : ℕ → ℕ = λ x. a.due + demand a.reserve.now a.ask.arrivals x in
    c.short_before.ensures.greatest a.reserve.now c.requires.level c.in_default.is more few
    (Leaves-part need a.ask.now a.ask.slots more more a.from a.until a.from at (omega arith) (omega arith) (omega (arith, c.max-at.ensures, c.requires.some, c.requires.ends)) leaves)

pub returns-clause-short : goal.returns-clause-short
returns-clause-short c =
    let a = c.args in
    let at = c.max-at.result in
    let end = c.min-end.result in
    let needed = a.ask.slots + a.due in
    let left = c.short_before.new.tried.left in
    let later : LeavesAllBetween a.reserve.now a.ask a.due left end a.until = LeavesAll-last a.reserve.now a.ask a.due left end a.until c.risen-last.result.demand c.risen-last.ensures.most (omega (arith, c.min-end.ensures)) in
    let past = found-past a.reserve.now a.ask.now a.ask.arrivals needed a.from at a.until (omega (arith, c.max-at.ensures)) (omega (arith, c.max-at.ensures, c.requires.some, c.requires.ends)) (c.in_default.ensures.short a.reserve.now c.requires.level) in
    let ahead = found-before a.reserve.now a.ask a.due left at end a.until (omega (arith, c.min-end.ensures)) later in
    c.short_by_rises-short.ensures.short ∙ sym (ap (option_map (evidence_of a.reserve.now a.ask.now a.ask.arrivals needed)) (past ∙ ahead))

pub returns-clause-greatest : goal.returns-clause-greatest
returns-clause-greatest c none =
    let a = c.args in
    Most-parts a.reserve.now a.ask a.due a.tried.now.left c.short_before.new.tried.left c.short_by_rises-short.new.tried.left a.from c.max-at.result c.min-end.result a.until (omega (arith, c.max-at.ensures)) (omega (arith, c.max-at.ensures, c.requires.some, c.requires.ends)) (omega (arith, c.min-end.ensures))
    (c.short_before.ensures.greatest a.reserve.now c.requires.level c.in_default.is) (c.short_by_rises-short.ensures.greatest none)
