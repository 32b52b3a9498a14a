use Rattle.std.proofs.Common.{◌≡◌, ◌+◌, ◌-◌, ◌≤◌, ◌<◌, sym, ap, ◌∙◌, subst, arith}
use Rattle.std.specs.Option.{option_map}
use Rattle.guarantee.specs.declared.search.Level.{Level}
use Rattle.guarantee.specs.Stretches.{evidence_of, IsLevelFrom}
use Rattle.guarantee.proofs.Segments.{demand, found-before, found-later, found-told, IsLevelFrom-later, Leaves-join, Leaves-later, Leaves-level, Leaves-part, Most-level}
use Rattle.guarantee.proofs.search.short_by_rises.Goals as goal

pub loop-at-preserved : goal.loop-at-preserved
loop-at-preserved c =
    let a = c.args in
    let at = c.loop-at.at in
    let inv = c.loop-at.invariant in
    let level = c.short_at.new.tried.level in
    let left = c.short_at.new.tried.left in
    let kept : level ≡ c.level_at-tried.result = c.short_at.ensures.level in
    let until : level.until ≡ c.level_at-tried.result.until = ap (λ (n : Level). n.until) kept in
    let same_demand : level.demand ≡ c.level_at-tried.result.demand = ap (λ (n : Level). n.demand) kept in
    let more : at < level.until = omega (arith, until, c.level_at-tried.ensures.after) in
    let is = subst (λ (n : Level). IsLevelFrom a.reserve.now a.ask.arrivals at n) (sym kept) c.level_at-tried.ensures.level in
    let low : a.ask.now ≤ at = omega (arith, inv.low, c.requires.from) in
    let room : a.ask.slots + a.due + level.demand ≤ at - a.ask.now = omega (arith, same_demand, c.in_default.ensures.short) in
    let before = Leaves-part (λ x. a.due + demand a.reserve.now a.ask.arrivals x) a.ask.now a.ask.slots c.loop-at.tried.left left a.from at a.from at c.short_at.ensures.least (omega arith) (omega arith) inv.left in
    let here = Leaves-level a.reserve.now a.ask a.due left at level.until level low (omega arith) is (λ some. let most = c.short_at.ensures.left c.in_default.is (omega (arith, same_demand)) in omega (arith, same_demand, most)) in
    let more_left = Most-level a.reserve.now a.ask a.due c.loop-at.tried.left left a.from at a.until level inv.low (omega (arith, c.loop-at-test.true, inv.high)) more is (λ fewer few room_for. c.short_at.ensures.greatest c.in_default.is fewer few (λ some. let most = room_for (omega (arith, same_demand)) in omega (arith, same_demand, most))) in
    let end = c.end_after-end.result in
    let past = Leaves-part (λ x. a.due + demand a.reserve.now a.ask.arrivals x) a.ask.now a.ask.slots c.loop-at.tried.left left c.loop-at.end a.until c.loop-at.end a.until c.short_at.ensures.least (omega arith) (omega arith) inv.later in
    record {
      low = omega (arith, inv.low, more);
      high = omega (arith, inv.high, c.end_after-end.ensures.end);
      rises = omega (arith, inv.rises, more);
      same = inv.same ∙ found-later a.reserve.now a.ask.now a.ask.arrivals (a.ask.slots + a.due) at c.loop-at.end level low more is room ∙ found-before a.reserve.now a.ask a.due left level.until end c.loop-at.end c.end_after-end.ensures.end c.end_after-end.ensures.left;
      here = IsLevelFrom-later a.reserve.now a.ask.arrivals at level.until level (omega (arith, more)) is;
      left = Leaves-join (λ x. a.due + demand a.reserve.now a.ask.arrivals x) a.ask.now a.ask.slots left a.from at level.until before here;
      later = Leaves-later a.reserve.now a.ask a.due left left end c.loop-at.end a.until (omega arith) c.end_after-end.ensures.left past;
      greatest = λ more few leaves. more_left more (inv.greatest more few leaves) leaves;
      least = omega (arith, inv.least, c.short_at.ensures.least);
    }

pub returns-in-Some-clause-short : goal.returns-in-Some-clause-short
returns-in-Some-clause-short c =
    let a = c.args in
    let needed = a.ask.slots + a.due in
    found-told a.reserve.now a.ask.now a.ask.arrivals needed c.loop-at.at c.loop-at.end c.level_at-tried.result c.in-Some.evidence c.loop-at-test.true c.level_at-tried.ensures.after c.level_at-tried.ensures.level c.in-Some.ensures.short
    ∙ sym (ap (option_map (evidence_of a.reserve.now a.ask.now a.ask.arrivals needed)) c.loop-at.invariant.same)
