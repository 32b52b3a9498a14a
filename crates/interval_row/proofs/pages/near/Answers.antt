use Rattle.std.proofs.Common.{◌*◌, ◌/◌, refl, arith}
use Rattle.interval_row.proofs.CutTimes.{IsBefore-none, IsFront-IsBefore}
use Rattle.interval_row.proofs.Laps.{follows, rises, IsNext, IsNext-early, IsNext-page}
use Rattle.interval_row.proofs.pages.near.Given.{Over}
use Rattle.interval_row.proofs.pages.near.Goals as goal
use Rattle.interval_row.proofs.pages.near.Goals.{After-mark_at}

pub tell_pages-requires-clause-rising : goal.tell_pages-requires-clause-rising
tell_pages-requires-clause-rising g c = rises c.requires.timed

pub loop-page-init : goal.loop-page-init
loop-page-init g c =
    let start = c.args.times.start in
    record { before = IsBefore-none start (start / 64 * 64) _ (follows c.requires.timed) (omega arith); early = omega arith }

-- the page after those so far
next : (g : Over) (c : After-mark_at g) → IsNext (g.S.Store.spans c.args.store.now) c.loop-page.front c.mark_at.result c.loop-page.page
next g c =
    IsNext-page c.loop-page.front c.mark_at.result c.loop-page.page c.args.x c.requires.timed (c.if-not-tell_pages.ensures refl) c.requires.within c.loop-page.auto.page c.loop-page-test.true c.mark_at.ensures c.loop-page.invariant.before

pub with_page-front-requires-clause-count : goal.with_page-front-requires-clause-count
with_page-front-requires-clause-count g c = omega (arith, (next g (goal.at.with_page-front-requires-clause-count g c).After-mark_at).count)

pub with_page-front-requires-clause-works : goal.with_page-front-requires-clause-works
with_page-front-requires-clause-works g c = omega (arith, (next g (goal.at.with_page-front-requires-clause-works g c).After-mark_at).works)

pub loop-page-preserved : goal.loop-page-preserved
loop-page-preserved g c =
    let next = next g (goal.at.loop-page-preserved g c).After-mark_at in
    rw c.with_page-front.ensures (record { before = next.before; early = IsNext-early _ c.loop-page.front c.mark_at.result c.loop-page.page c.args.x next c.loop-page-test.true })

pub returns-clause-front : goal.returns-clause-front
returns-clause-front g c =
    IsFront-IsBefore c.args.times.start (c.loop-page.page * 64) _ c.loop-page.front (follows c.requires.timed) c.loop-page.invariant.before
