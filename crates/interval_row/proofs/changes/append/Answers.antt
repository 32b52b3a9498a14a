use Rattle.std.proofs.Common.{◌∙◌, ◌≤◌, ◌^◌, [], ◌∷◌, ◌++◌, get_or, set, length, map, take, ap, arith}
use Rattle.std.proofs.lemmas.List.{length-append}
use Rattle.slot_core.specs.declared.jobs.Span.{Span}
use Rattle.spare_capacity.specs.Recurrence.{first_start}
use Rattle.node_chain.specs.Laps.{blank_mark}
use Rattle.interval_row.specs.Changes.{shifted}
use Rattle.interval_row.specs.Marks.{mark_index, with_end}
use Rattle.interval_row.proofs.Cycles.{appended-next, last_end-some}
use Rattle.interval_row.proofs.Marked.{few_counts, few_works, put_is, AreLight-push, AreMarked-gained, Gains-push}
use Rattle.interval_row.proofs.Places.{end-le-last_end, work-le}
use Rattle.interval_row.proofs.changes.append.Given.{Over}
use Rattle.interval_row.proofs.changes.append.Goals as goal
use Rattle.interval_row.proofs.changes.append.Goals.{After-shifted-later}

pub shifted-later-requires-clause-start : goal.shifted-later-requires-clause-start
shifted-later-requires-clause-start g c =
    let spans = c.args.spans.now in
    omega (arith, c.requires.near, last_end-some (first_start spans) 0 spans c.requires.spans.some, (end-le-last_end (first_start spans) spans c.loop-span.span-index c.requires.spans.consecutive c.loop-span-test.true).0)

pub shifted-later-requires-clause-end : goal.shifted-later-requires-clause-end
shifted-later-requires-clause-end g c =
    let spans = c.args.spans.now in
    omega (arith, c.requires.near, last_end-some (first_start spans) 0 spans c.requires.spans.some, (end-le-last_end (first_start spans) spans c.loop-span.span-index c.requires.spans.consecutive c.loop-span-test.true).1)

-- the span that is pushed has a small work
few : (g : Over) (c : After-shifted-later g) → c.shifted-later.result.work ≤ 2 ^ 40
few g c =
    let spans = c.args.spans.now in
    omega (arith, work-le (first_start spans) spans c.loop-span.span-index c.requires.spans.consecutive c.loop-span-test.true, ap (λ (s : Span). s.work) c.shifted-later.ensures)

pub add_span-requires-clause-marks : goal.add_span-requires-clause-marks
add_span-requires-clause-marks g c = ap length c.push.ensures.kept.numbers ∙ c.loop-span.invariant.marked.length

pub add_span-requires-clause-counts : goal.add_span-requires-clause-counts
add_span-requires-clause-counts g c =
    rw c.push.ensures.kept.numbers (few_counts c.shifted-later.result.end c.loop-span.invariant.marked (omega (arith, c.loop-span.invariant.count, c.loop-span-test.true, c.requires.few)))

pub add_span-requires-clause-works : goal.add_span-requires-clause-works
add_span-requires-clause-works g c =
    rw c.push.ensures.kept.numbers (few_works c.shifted-later.result.end c.loop-span.invariant.marked c.loop-span.invariant.light (omega (arith, c.loop-span.invariant.count, c.loop-span-test.true, c.requires.few)))

pub add_span-requires-clause-few : goal.add_span-requires-clause-few
add_span-requires-clause-few g c = few g (goal.at.add_span-requires-clause-few g c).After-shifted-later

pub loop-span-preserved : goal.loop-span-preserved
loop-span-preserved g c =
    let spans = c.args.spans.now in
    let rows = g.S.Store.spans c.loop-span.store in
    let marks = g.S.Store.marks c.loop-span.store in
    let later = c.shifted-later.result in
    let i = mark_index later.end in
    let few = few g (goal.at.loop-span-preserved g c).After-shifted-later in
    let now = c.add_span.ensures.kept.spans ∙ c.push.ensures.spans in
    let put = put_is (g.S.Store.marks c.push.new.self) (g.S.Store.marks c.add_span.new.store) i (with_end later.end later.work) (omega (arith, ap length c.push.ensures.kept.numbers, c.loop-span.invariant.marked.length)) c.add_span.ensures.marks in
    let same = put ∙ ap (λ ms. set ms i (with_end later.end later.work (get_or ms i blank_mark))) c.push.ensures.kept.numbers in
    record {
      spans = now ∙ ap (λ xs. xs ++ later ∷ []) c.loop-span.invariant.spans ∙ ap (λ s. (g.S.Store.spans c.args.store.now ++ map (shifted c.args.by) (take c.loop-span.span-index spans)) ++ s ∷ []) c.shifted-later.ensures ∙ appended-next c.args.by c.loop-span.span-index (g.S.Store.spans c.args.store.now) spans c.loop-span-test.true;
      count = omega (arith, ap length now, length-append rows (later ∷ []), c.loop-span.invariant.count);
      light = rw now (AreLight-push rows later c.loop-span.invariant.light few);
      marked = rw (now, same) (AreMarked-gained _ rows (rows ++ later ∷ []) marks later.end later.work (Gains-push rows later) c.loop-span.invariant.marked);
      room = c.add_span.ensures.kept.room ∙ c.push.ensures.kept.room ∙ c.loop-span.invariant.room;
      steps = omega (arith, c.push.ensures.two_steps, c.loop-span.invariant.steps);
    }
