use Rattle.std.proofs.Common.{ℕ, ◌+◌, ◌/◌, ◌<◌, ◌≤◌, refl, arith}
use Rattle.std.proofs.lemmas.Option.{slice_get_within}
use Rattle.interval_row.specs.declared.table.Front.{Front}
use Rattle.interval_row.proofs.Laps.{ends, follows, lies-in-lap, rises, IsNext, IsNext-page}
use Rattle.interval_row.proofs.ShortTimes.{end-at}
use Rattle.interval_row.proofs.Skips.{crosses, late, ArePassed, ArePassed-next, ArePassed-none, Crosses, Skipped, Skipped-ArePassed}
use Rattle.interval_row.proofs.pages.skip_pages.Given.{Over}
use Rattle.interval_row.proofs.pages.skip_pages.Goals as goal
use Rattle.interval_row.proofs.pages.skip_pages.Goals.{After-mark_at-mark, Else-span-first, Start}

pub tell_pages-requires-clause-rising : goal.tell_pages-requires-clause-rising
tell_pages-requires-clause-rising g c = rises c.requires.timed

pub returns-then-span-first-clause-within : goal.returns-then-span-first-clause-within
returns-then-span-first-clause-within g c = slice_get_within _ c.args.front.count c.args.span c.requires.span

-- the place is the first that ends in its page
crossing : (g : Over) (c : Else-span-first g) → Crosses c.args.times.start (g.S.Store.spans c.args.store.now) c.args.front c.args.span
crossing g c = crosses (follows c.requires.timed) c.requires.front c.requires.span c.if-span-first.false

pub loop-page-init : goal.loop-page-init
loop-page-init g c = ArePassed-none c.args.until c.args.asked (crossing g (goal.at.loop-page-init g c).Else-span-first)

-- the page after those so far
next : (g : Over) (c : After-mark_at-mark g) → IsNext (g.S.Store.spans c.args.store.now) c.loop-page.passed c.mark_at-mark.result c.loop-page.page
next g c =
    let crossing = crosses (follows c.requires.timed) c.requires.front c.requires.span c.if-span-first.false in
    IsNext-page c.loop-page.passed c.mark_at-mark.result c.loop-page.page c.args.until c.requires.timed (c.if-not-tell_pages.ensures refl) c.requires.until (omega (arith, late crossing, crossing.border, c.loop-page.invariant.from)) c.loop-page-test.true c.mark_at-mark.ensures c.loop-page.invariant.before

pub overflow_add-asked : goal.overflow_add-asked
overflow_add-asked g c = omega (arith, c.requires.few, (next g (goal.at.overflow_add-asked g c).After-mark_at-mark).works)

pub with_page-passed-requires-clause-count : goal.with_page-passed-requires-clause-count
with_page-passed-requires-clause-count g c = omega (arith, (next g (goal.at.with_page-passed-requires-clause-count g c).After-mark_at-mark).count)

pub with_page-passed-requires-clause-works : goal.with_page-passed-requires-clause-works
with_page-passed-requires-clause-works g c = omega (arith, (next g (goal.at.with_page-passed-requires-clause-works g c).After-mark_at-mark).works)

pub loop-page-preserved : goal.loop-page-preserved
loop-page-preserved g c =
    let crossing = crossing g (goal.at.loop-page-preserved g c).Else-span-first in
    let marked = c.requires.timed.marked.each _ c.mark_at-mark.result c.mark_at-mark.ensures in
    let lap : c.loop-page.page < c.args.times.start / 64 + 512 = omega (arith, (c.if-not-tell_pages.ensures refl), c.requires.until, c.loop-page-test.true) in
    rw c.with_page-passed.ensures (ArePassed-next c.mark_at-mark.result crossing (lies-in-lap c.requires.timed (c.if-not-tell_pages.ensures refl)) lap c.loop-page-test.true marked c.requires.some c.if-mark-asked.false c.loop-page.invariant)

-- what holds where pages were passed
skipped : (g : Over) (c : Else-span-first g) {now : Front} {page : ℕ} → ArePassed (g.S.Store.spans c.args.store.now) c.args.front now c.args.span c.args.until c.args.asked page → Skipped (g.S.Store.spans c.args.store.now) c.args.front now c.args.span c.args.until c.args.asked
skipped g c passed = Skipped-ArePassed (crossing g c) (omega (arith, c.requires.until, ends c.requires.timed)) passed

pub returns-then-mark-asked-clause-front : goal.returns-then-mark-asked-clause-front
returns-then-mark-asked-clause-front g c = (skipped g (goal.at.returns-then-mark-asked-clause-front g c).Else-span-first c.loop-page.invariant).is

pub returns-then-mark-asked-clause-within : goal.returns-then-mark-asked-clause-within
returns-then-mark-asked-clause-within g c = (skipped g (goal.at.returns-then-mark-asked-clause-within g c).Else-span-first c.loop-page.invariant).within

pub returns-then-mark-asked-clause-reached : goal.returns-then-mark-asked-clause-reached
returns-then-mark-asked-clause-reached g c = (skipped g (goal.at.returns-then-mark-asked-clause-reached g c).Else-span-first c.loop-page.invariant).reached

pub returns-then-mark-asked-clause-leaves : goal.returns-then-mark-asked-clause-leaves
returns-then-mark-asked-clause-leaves g c = (skipped g (goal.at.returns-then-mark-asked-clause-leaves g c).Else-span-first c.loop-page.invariant).room

pub returns-clause-front : goal.returns-clause-front
returns-clause-front g c = (skipped g (goal.at.returns-clause-front g c).Else-span-first c.loop-page.invariant).is

pub returns-clause-within : goal.returns-clause-within
returns-clause-within g c = (skipped g (goal.at.returns-clause-within g c).Else-span-first c.loop-page.invariant).within

pub returns-clause-reached : goal.returns-clause-reached
returns-clause-reached g c = (skipped g (goal.at.returns-clause-reached g c).Else-span-first c.loop-page.invariant).reached

pub returns-clause-leaves : goal.returns-clause-leaves
returns-clause-leaves g c = (skipped g (goal.at.returns-clause-leaves g c).Else-span-first c.loop-page.invariant).room

-- the span ends no later than the last
span-ends : (g : Over) (c : Start g) → c.args.span.end ≤ c.args.times.end
span-ends g c = omega (arith, ends c.requires.timed, end-at _ c.args.front.count _ c.args.span (follows c.requires.timed) c.requires.span)

pub returns-then-span-first-clause-page : goal.returns-then-span-first-clause-page
returns-then-span-first-clause-page g c =
    omega (arith, span-ends g (goal.at.returns-then-span-first-clause-page g c).Start)

pub returns-clause-page : goal.returns-clause-page
returns-clause-page g c =
    omega (arith, span-ends g (goal.at.returns-clause-page g c).Start, c.requires.until, c.max.ensures)
