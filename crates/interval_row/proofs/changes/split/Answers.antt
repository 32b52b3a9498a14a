use Rattle.std.proofs.Common.{◌≡◌, ◌≤◌, ◌∙◌, get_or, set, length, ap, sym, subst, arith}
use Rattle.std.proofs.lemmas.Option.{get_or_from_slice_get}
use Rattle.slot_core.specs.declared.jobs.Span.{Span}
use Rattle.spare_capacity.specs.Recurrence.{filled, first_start, last_end}
use Rattle.spare_capacity.proofs.Steps.{no_row}
use Rattle.node_chain.specs.Laps.{blank_mark}
use Rattle.interval_row.specs.Changes.{cut}
use Rattle.interval_row.specs.Marks.{mark_index, with_cut}
use Rattle.interval_row.specs.Spans.{place_of, HoldsInside}
use Rattle.interval_row.proofs.Cuts.{cut-same, place_of-within, HoldsInside-place_of}
use Rattle.interval_row.proofs.Cycles.{last_end-some}
use Rattle.interval_row.proofs.Laps.{follows}
use Rattle.interval_row.proofs.Marked.{few_counts, put_is, AreMarked-cut, Gains-cut, Gains-filled}
use Rattle.interval_row.proofs.Places.{ends-span_ending}
use Rattle.interval_row.proofs.WalkBack.{place_of-ends_before}
use Rattle.interval_row.proofs.changes.split.Given.{Over}
use Rattle.interval_row.proofs.changes.split.Goals as goal
use Rattle.interval_row.proofs.changes.split.Goals.{After-find-place}

pub find-place-requires-clause-within : goal.find-place-requires-clause-within
find-place-requires-clause-within g c =
    let rows = g.S.Store.spans c.args.store.now in
    let reached : c.args.at ≤ last_end (first_start rows) rows = omega (arith, c.requires.reached, last_end-some (first_start rows) 0 rows c.requires.timed.filled.some) in
    place_of-within (first_start rows) c.args.at rows c.requires.timed.filled.consecutive c.requires.after reached

-- the end of the span that was found
end_is : (g : Over) (c : After-find-place g) → c.find-place.result.span.end ≡ (get_or (g.S.Store.spans c.args.store.now) (place_of c.args.at (g.S.Store.spans c.args.store.now)) no_row).end
end_is g c =
    let rows = g.S.Store.spans c.args.store.now in
    ap (λ (s : Span). s.end) (sym (get_or_from_slice_get rows c.find-place.result.index c.find-place.result.span no_row c.find-place.ensures.span)) ∙ ap (λ k. (get_or rows k no_row).end) c.find-place.ensures.index

-- a time that is not its end lies inside it
inside : (g : Over) (c : After-find-place g) → (c.find-place.result.span.end ≡ c.args.at → ⊥) → HoldsInside c.args.at c.find-place.result.index (g.S.Store.spans c.args.store.now)
inside g c apart =
    let rows = g.S.Store.spans c.args.store.now in
    let reached : c.args.at ≤ last_end (first_start rows) rows = omega (arith, c.requires.reached, last_end-some (first_start rows) 0 rows c.requires.timed.filled.some) in
    let other = λ (e : (get_or rows (place_of c.args.at rows) no_row).end ≡ c.args.at). apart (end_is g c ∙ e) in
    subst (λ k. HoldsInside c.args.at k rows) (sym c.find-place.ensures.index) (HoldsInside-place_of (first_start rows) c.args.at rows c.requires.timed.filled.consecutive c.requires.after reached other)

pub halve-requires-clause-inside : goal.halve-requires-clause-inside
halve-requires-clause-inside g c = inside g (goal.at.halve-requires-clause-inside g c).After-find-place c.if-place-at.true

pub cut_span-requires-clause-marks : goal.cut_span-requires-clause-marks
cut_span-requires-clause-marks g c = ap length c.halve.ensures.kept.numbers ∙ c.requires.timed.marked.length

pub cut_span-requires-clause-counts : goal.cut_span-requires-clause-counts
cut_span-requires-clause-counts g c =
    rw c.halve.ensures.kept.numbers (few_counts c.args.at c.requires.timed.marked c.requires.timed.filled.few)

pub returns-then-place-at-clause-marked : goal.returns-then-place-at-clause-marked
returns-then-place-at-clause-marked g c =
    let rows = g.S.Store.spans c.args.store.now in
    let marks = g.S.Store.marks c.args.store.now in
    let at = c.args.at in
    let i = mark_index at in
    let inside = inside g (goal.at.returns-then-place-at-clause-marked g c).After-find-place c.if-place-at.true in
    let gains = Gains-filled (Gains-cut c.args.times.start at c.find-place.result.index rows (follows c.requires.timed) c.find-place.ensures.index inside) in
    let now = c.cut_span.ensures.kept.spans ∙ c.halve.ensures.spans in
    let put = put_is (g.S.Store.marks c.halve.new.store) (g.S.Store.marks c.cut_span.new.store) i with_cut (omega (arith, ap length c.halve.ensures.kept.numbers, c.requires.timed.marked.length)) c.cut_span.ensures.marks in
    let same = put ∙ ap (λ ms. set ms i (with_cut (get_or ms i blank_mark))) c.halve.ensures.kept.numbers in
    rw (now, same) (AreMarked-cut c.args.times.start rows (filled (cut at rows)) marks at gains c.requires.timed.marked)

pub returns-then-place-at-clause-nothing : goal.returns-then-place-at-clause-nothing
returns-then-place-at-clause-nothing g c =
    λ found.
    let rows = g.S.Store.spans c.args.store.now in
    let after = (goal.at.returns-then-place-at-clause-nothing g c).After-find-place in
    absurd (c.if-place-at.true (end_is g after ∙ ends-span_ending (first_start rows) rows c.args.at c.requires.timed.filled.consecutive found))

pub returns-then-place-at-clause-few_steps : goal.returns-then-place-at-clause-few_steps
returns-then-place-at-clause-few_steps g c =
    omega (arith, c.find-place.ensures.few_steps, c.find-place.ensures.index, c.halve.ensures.steps, place_of-ends_before c.args.at (g.S.Store.spans c.args.store.now))

pub returns-else-place-at-clause-spans : goal.returns-else-place-at-clause-spans
returns-else-place-at-clause-spans g c =
    let rows = g.S.Store.spans c.args.store.now in
    let after = (goal.at.returns-else-place-at-clause-spans g c).After-find-place in
    c.requires.timed.filled.filled ∙ ap filled (sym (cut-same (first_start rows) c.args.at rows c.requires.timed.filled.consecutive (sym (end_is g after) ∙ c.if-place-at.false)))

pub returns-else-place-at-clause-few_steps : goal.returns-else-place-at-clause-few_steps
returns-else-place-at-clause-few_steps g c =
    omega (arith, c.find-place.ensures.few_steps, c.find-place.ensures.index, place_of-ends_before c.args.at (g.S.Store.spans c.args.store.now))
