use Rattle.std.proofs.Common.{◌<◌, ◌∙◌, slice_get, ap, sym, arith}
use Rattle.interval_row.proofs.ShortTimes.{works-next}
use Rattle.guarantee.specs.Places.{IsPlace}
use Rattle.guarantee.proofs.Places.{ended-before, start-before}
use Rattle.guarantee.proofs.Tables.{near-within, IsSeen-place}
use Rattle.guarantee.proofs.walk.place_of.Given.{Over}
use Rattle.guarantee.proofs.walk.place_of.Goals as goal
use Rattle.guarantee.proofs.walk.place_of.Goals.{After-read-span}

-- the place of the span that is read
place : (g : Over) (c : After-read-span g) → IsPlace (g.T.SpareTable.spans c.args.table.now) (record { at = c.spot-at.result; due = c.loop-index.due; index = c.loop-index.index; span = c.read-span.result })
place g c = record {
  within = omega (arith, c.loop-index-test.true, c.count-count.ensures.count);
  spot = c.spot-at.ensures;
  span = ap (slice_get (g.T.SpareTable.spans c.args.table.now)) (sym c.spot-at.ensures) ∙ c.read-span.ensures.span;
  due = c.loop-index.invariant.front.works;
}

pub returns-then-time-span-clause-early : goal.returns-then-time-span-clause-early
returns-then-time-span-clause-early g c =
    let t = g.T.SpareTable.time c.args.table.now in
    let spans = g.T.SpareTable.spans c.args.table.now in
    let here = place g (goal.at.returns-then-time-span-clause-early g c).After-read-span in
    start-before t c.loop-index.index c.args.time spans c.read-span.result c.count-count.ensures.table.consecutive here.span c.requires.after c.loop-index.invariant.early

pub overflow_add-due : goal.overflow_add-due
overflow_add-due g c =
    let here = place g (goal.at.overflow_add-due g c).After-read-span in
    let seen = IsSeen-place c.count-count.ensures.table here in
    omega (arith, seen.small, seen.stands.work)

pub loop-index-preserved : goal.loop-index-preserved
loop-index-preserved g c =
    let t = g.T.SpareTable.time c.args.table.now in
    let spans = g.T.SpareTable.spans c.args.table.now in
    let here = place g (goal.at.loop-index-preserved g c).After-read-span in
    let ended : c.read-span.result.end < c.args.time = omega (arith, c.if-time-span.false) in
    record {
      front = record {
        few = omega (arith, here.within);
        works = omega (arith, here.due, works-next c.loop-index.index spans c.read-span.result here.span);
      };
      early = omega (arith, ended-before t c.args.time c.loop-index.index spans c.read-span.result c.count-count.ensures.table.consecutive here.span ended);
      rose = omega (arith, c.loop-index.invariant.rose, c.read-span.ensures.one_step);
      steps = omega (arith, c.loop-index.invariant.steps, c.read-span.ensures.one_step);
    }

pub unreachable-requires : goal.unreachable-requires
unreachable-requires g c =
    let t = g.T.SpareTable.time c.args.table.now in
    let spans = g.T.SpareTable.spans c.args.table.now in
    omega (arith, c.loop-index-test.false, c.count-count.ensures.count, near-within t c.args.time c.loop-index.index spans c.count-count.ensures.table.consecutive c.requires.after c.requires.within c.loop-index.invariant.early)
