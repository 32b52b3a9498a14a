use Rattle.std.proofs.Common.{◌≡◌, ◌/◌, ◌∙◌, take, refl, ap, sym, arith}
use Rattle.std.proofs.lemmas.Option.{slice_get_within, get_or_from_slice_get}
use Rattle.slot_core.specs.declared.jobs.Span.{Span}
use Rattle.spare_capacity.specs.Recurrence.{filled, first_start, last_end}
use Rattle.spare_capacity.proofs.Steps.{no_row}
use Rattle.interval_row.specs.Spans.{with_work_at}
use Rattle.interval_row.specs.Walks.{after_walk}
use Rattle.interval_row.proofs.CutTimes.{rises-at, start-at}
use Rattle.interval_row.proofs.Laps.{ends, follows, rises}
use Rattle.interval_row.proofs.PageWalks.{CanWalk, CanWalk-AreTimed}
use Rattle.interval_row.proofs.Places.{end-le-last_end}
use Rattle.interval_row.proofs.RunWalks.{take-fewer}
use Rattle.interval_row.proofs.walk.set_work.Given.{Over}
use Rattle.interval_row.proofs.walk.set_work.Goals as goal
use Rattle.interval_row.proofs.walk.set_work.Goals.{After-follow_rest-walk, After-set_span-from}

pub are_in_lap-requires-clause-rising : goal.are_in_lap-requires-clause-rising
are_in_lap-requires-clause-rising g c = rises c.requires.timed

-- what the spans become
can : (g : Over) (c : After-set_span-from g) → CanWalk c.args.times.start c.args.times.end (filled (with_work_at c.args.place.index c.args.span.work (g.S.Store.spans c.args.store.now))) (g.S.Store.marks c.args.store.now)
can g c = CanWalk-AreTimed c.args.place.index c.args.span.work c.args.place.span c.requires.timed c.requires.span c.requires.few

pub follow_all-requires-clause-filled : goal.follow_all-requires-clause-filled
follow_all-requires-clause-filled g c = rw c.set_span-from.ensures.spans (can g ((goal.at.follow_all-requires-clause-filled g c).After-set_span-from)).filled

pub follow_rest-walk-requires-clause-within : goal.follow_rest-walk-requires-clause-within
follow_rest-walk-requires-clause-within g c =
    let at = slice_get_within (g.S.Store.spans c.set_span-from.new.store) c.args.place.index c.args.span c.set_span-from.ensures.placed in
    omega (arith, at, c.set_span-from.ensures.index)

pub follow_rest-walk-requires-clause-filled : goal.follow_rest-walk-requires-clause-filled
follow_rest-walk-requires-clause-filled g c = rw c.set_span-from.ensures.spans (can g ((goal.at.follow_rest-walk-requires-clause-filled g c).After-set_span-from)).filled

-- and are after the page of the place
walking : (g : Over) (c : After-follow_rest-walk g) → after_walk c.follow_rest-walk.result (g.S.Store.spans c.follow_rest-walk.new.store) ≡ filled (with_work_at c.args.place.index c.args.span.work (g.S.Store.spans c.args.store.now))
walking g c = c.follow_rest-walk.ensures.spans ∙ c.set_span-from.ensures.spans

pub follow_pages-requires-clause-pages : goal.follow_pages-requires-clause-pages
follow_pages-requires-clause-pages g c =
    let can = can g ((goal.at.follow_pages-requires-clause-pages g c).After-set_span-from) in
    let marks = c.follow_rest-walk.ensures.kept.numbers ∙ c.set_span-from.ensures.kept.numbers in
    rw (walking g ((goal.at.follow_pages-requires-clause-pages g c).After-follow_rest-walk), marks) (can.pages (c.if-not-are_in_lap.ensures refl))

pub follow_pages-requires-clause-first : goal.follow_pages-requires-clause-first
follow_pages-requires-clause-first g c =
    let can = can g ((goal.at.follow_pages-requires-clause-first g c).After-set_span-from) in
    let starts = ap first_start (walking g ((goal.at.follow_pages-requires-clause-first g c).After-follow_rest-walk)) ∙ can.starts in
    ap (λ n. n / 64) (sym starts)

pub follow_pages-requires-clause-end : goal.follow_pages-requires-clause-end
follow_pages-requires-clause-end g c =
    let rows = g.S.Store.spans c.args.store.now in
    let k = c.args.place.index in
    let can = can g ((goal.at.follow_pages-requires-clause-end g c).After-set_span-from) in
    let last = ap (last_end 0) (walking g ((goal.at.follow_pages-requires-clause-end g c).After-follow_rest-walk)) ∙ can.ends in
    let is = ap (λ (s : Span). s.end) (get_or_from_slice_get rows k c.args.place.span no_row c.requires.span) in
    let within = end-le-last_end c.args.times.start rows k (follows c.requires.timed) (slice_get_within rows k c.args.place.span c.requires.span) in
    omega (arith, last, is, within.1, ends c.requires.timed, ap (λ (s : Span). s.end) c.requires.spare)

pub follow_pages-requires-clause-rising : goal.follow_pages-requires-clause-rising
follow_pages-requires-clause-rising g c =
    let rows = g.S.Store.spans c.args.store.now in
    let k = c.args.place.index in
    let span = c.args.place.span in
    let follow = follows c.requires.timed in
    omega (arith, start-at c.args.times.start k rows span follow c.requires.span, rises-at c.args.times.start k rows span follow c.requires.span, ap (λ (s : Span). s.end) c.requires.spare)

pub returns-clause-spans : goal.returns-clause-spans
returns-clause-spans g c = c.follow_pages.ensures.spans ∙ walking g ((goal.at.returns-clause-spans g c).After-follow_rest-walk)

-- the spans before the place have stayed when it was set
stayed : (g : Over) (c : After-set_span-from g) → take c.set_span-from.result.index (g.S.Store.spans c.set_span-from.new.store) ≡ take c.set_span-from.result.index (g.S.Store.spans c.args.store.now)
stayed g c = rw c.set_span-from.ensures.index c.set_span-from.ensures.front

pub returns-then-not-are_in_lap-clause-front : goal.returns-then-not-are_in_lap-clause-front
returns-then-not-are_in_lap-clause-front g c =
    c.follow_all.ensures.front
    ∙ take-fewer c.follow_all.result c.set_span-from.result.index (g.S.Store.spans c.set_span-from.new.store) (g.S.Store.spans c.args.store.now) (stayed g (goal.at.returns-then-not-are_in_lap-clause-front g c).After-set_span-from) c.follow_all.ensures.before

pub returns-clause-front : goal.returns-clause-front
returns-clause-front g c =
    let after = (goal.at.returns-clause-front g c).After-set_span-from in
    let first = c.set_span-from.result.index in
    let rest = c.follow_rest-walk.result.index in
    let last = c.follow_pages.result in
    let set = g.S.Store.spans c.set_span-from.new.store in
    let old = g.S.Store.spans c.args.store.now in
    let page = c.follow_rest-walk.ensures.front ∙ take-fewer rest first set old (stayed g after) c.follow_rest-walk.ensures.before in
    c.follow_pages.ensures.front ∙ take-fewer last rest (g.S.Store.spans c.follow_rest-walk.new.store) old page c.follow_pages.ensures.before
