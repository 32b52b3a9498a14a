use Rattle.std.proofs.Common.{◌<◌, ◌≤◌, get_or, ap, arith}
use Rattle.std.proofs.lemmas.Option.{slice_get_within, get_or_from_slice_get}
use Rattle.slot_core.specs.declared.jobs.Span.{Span}
use Rattle.spare_capacity.proofs.Steps.{no_row}
use Rattle.interval_row.proofs.CutTimes.{ends_before-place_of, place_of-reached}
use Rattle.interval_row.proofs.Laps.{ends, follows}
use Rattle.interval_row.proofs.WalkBack.{place_of-here, place_of-next}
use Rattle.interval_row.proofs.walk.find.Goals as goal

pub near-front-requires-clause-within : goal.near-front-requires-clause-within
near-front-requires-clause-within g c =
    omega (arith, ends c.requires.timed, place_of-reached c.args.times.start c.args.x (g.S.Store.spans c.args.store.now) (follows c.requires.timed) c.requires.within)

pub loop-index-init : goal.loop-index-init
loop-index-init g c =
    record {
      before = omega (arith, c.near-front.ensures.early, ends_before-place_of c.args.times.start c.args.x (g.S.Store.spans c.args.store.now) (follows c.requires.timed));
      low = omega arith;
      high = omega arith;
    }

pub returns-then-x-span-clause-index : goal.returns-then-x-span-clause-index
returns-then-x-span-clause-index g c =
    let rows = g.S.Store.spans c.args.store.now in
    let index = c.loop-index.index in
    let span = get_or_from_slice_get rows index c.at-span.result no_row c.at-span.ensures.span in
    let ends : c.args.x ≤ (get_or rows index no_row).end = omega (arith, c.if-x-span.true, ap (λ (s : Span). s.end) span) in
    place_of-here c.args.x rows index c.loop-index.invariant.before (slice_get_within rows index c.at-span.result c.at-span.ensures.span) ends

pub loop-index-preserved : goal.loop-index-preserved
loop-index-preserved g c =
    let rows = g.S.Store.spans c.args.store.now in
    let index = c.loop-index.index in
    let span = get_or_from_slice_get rows index c.at-span.result no_row c.at-span.ensures.span in
    let ends : (get_or rows index no_row).end < c.args.x = omega (arith, c.if-x-span.false, ap (λ (s : Span). s.end) span) in
    record {
      before = place_of-next c.args.x rows index c.loop-index.invariant.before (slice_get_within rows index c.at-span.result c.at-span.ensures.span) ends;
      low = omega (arith, c.at-span.ensures.one_step, c.loop-index.invariant.low);
      high = omega (arith, c.at-span.ensures.one_step, c.loop-index.invariant.high);
    }
