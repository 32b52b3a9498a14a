use Rattle.std.proofs.Common.{◌≡◌, ◌+◌, ◌≤◌, ◌^◌, ◌∙◌, get_or, set, drop, take, length, ap, sym, subst, arith}
use Rattle.std.proofs.lemmas.Option.{get_or_from_slice_get}
use Rattle.slot_core.specs.declared.jobs.Span.{Span}
use Rattle.spare_capacity.specs.Recurrence.{filled, first_spare, first_start, with_spare}
use Rattle.spare_capacity.proofs.Steps.{no_row}
use Rattle.node_chain.specs.Laps.{blank_mark}
use Rattle.interval_row.specs.Spans.{with_work_at}
use Rattle.interval_row.specs.Works.{changed_by, MayChangeBy}
use Rattle.interval_row.specs.Marks.{mark_index, with_change}
use Rattle.interval_row.proofs.Laps.{follows}
use Rattle.interval_row.proofs.Marked.{few_works, put_is, AreLight-FollowOn, AreMarked-changed, Moves-filled, Moves-with_work_at}
use Rattle.interval_row.proofs.Places.{work-le, IsDueAt, IsDueAt-span_ending}
use Rattle.interval_row.proofs.WalkBack.{place_of-ends_before, with_spare-changed, IsWithin, IsWithin-spare}
use Rattle.interval_row.proofs.Works.{changed_by-le}
use Rattle.interval_row.proofs.changes.change_work.Given.{Over}
use Rattle.interval_row.proofs.changes.change_work.Goals as goal
use Rattle.interval_row.proofs.changes.change_work.Goals.{After-find_hinted-place}

pub find_hinted-place-requires-clause-within : goal.find_hinted-place-requires-clause-within
find_hinted-place-requires-clause-within g c =
    let rows = g.S.Store.spans c.args.store.now in
    (IsDueAt-span_ending (first_start rows) rows c.args.deadline (λ (s : Span). MayChangeBy c.args.change s.work) c.requires.timed.filled.consecutive c.requires.due).within

-- the span that is due
due : (g : Over) (c : After-find_hinted-place g) → IsDueAt c.args.deadline (λ (s : Span). MayChangeBy c.args.change s.work) (g.S.Store.spans c.args.store.now) c.find_hinted-place.result.index
due g c =
    let rows = g.S.Store.spans c.args.store.now in
    subst (IsDueAt c.args.deadline (λ (s : Span). MayChangeBy c.args.change s.work) rows) (sym c.find_hinted-place.ensures.index) (IsDueAt-span_ending (first_start rows) rows c.args.deadline (λ (s : Span). MayChangeBy c.args.change s.work) c.requires.timed.filled.consecutive c.requires.due)

-- is the one that was found
found : (g : Over) (c : After-find_hinted-place g) → c.find_hinted-place.result.span ≡ get_or (g.S.Store.spans c.args.store.now) c.find_hinted-place.result.index no_row
found g c = sym (get_or_from_slice_get (g.S.Store.spans c.args.store.now) c.find_hinted-place.result.index c.find_hinted-place.result.span no_row c.find_hinted-place.ensures.span)

-- may change so
may : (g : Over) (c : After-find_hinted-place g) → MayChangeBy c.args.change c.find_hinted-place.result.span.work
may g c = subst (λ (s : Span). MayChangeBy c.args.change s.work) (sym (found g c)) (due g c).holds

-- and has a capacity and a work within bounds
within : (g : Over) (c : After-find_hinted-place g) → IsWithin c.find_hinted-place.result.span.spare
within g c =
    let rows = g.S.Store.spans c.args.store.now in
    subst (λ (s : Span). IsWithin s.spare) (sym (found g c)) (IsWithin-spare (first_start rows) rows c.find_hinted-place.result.index c.requires.timed.filled.consecutive c.requires.timed.filled.filled c.requires.timed.filled.few (due g c).within)

few : (g : Over) (c : After-find_hinted-place g) → c.find_hinted-place.result.span.work ≤ 2 ^ 40
few g c =
    let rows = g.S.Store.spans c.args.store.now in
    omega (arith, work-le (first_start rows) rows c.find_hinted-place.result.index c.requires.timed.filled.consecutive (due g c).within, ap (λ (s : Span). s.work) (found g c))

pub changed-span-requires-clause-low : goal.changed-span-requires-clause-low
changed-span-requires-clause-low g c = (within g (goal.at.changed-span-requires-clause-low g c).After-find_hinted-place).low

pub changed-span-requires-clause-high : goal.changed-span-requires-clause-high
changed-span-requires-clause-high g c = (within g (goal.at.changed-span-requires-clause-high g c).After-find_hinted-place).high

pub changed-span-requires-clause-few : goal.changed-span-requires-clause-few
changed-span-requires-clause-few g c = few g (goal.at.changed-span-requires-clause-few g c).After-find_hinted-place

pub changed-span-requires-clause-change : goal.changed-span-requires-clause-change
changed-span-requires-clause-change g c = may g (goal.at.changed-span-requires-clause-change g c).After-find_hinted-place

pub set_work-stay-requires-clause-few : goal.set_work-stay-requires-clause-few
set_work-stay-requires-clause-few g c =
    let after = (goal.at.set_work-stay-requires-clause-few g c).After-find_hinted-place in
    omega (arith, changed_by-le c.args.change c.find_hinted-place.result.span.work (few g after) (may g after), ap (λ (s : Span). s.work) c.changed-span.ensures)

pub set_work-stay-requires-clause-spare : goal.set_work-stay-requires-clause-spare
set_work-stay-requires-clause-spare g c =
    let after = (goal.at.set_work-stay-requires-clause-spare g c).After-find_hinted-place in
    let rows = g.S.Store.spans c.args.store.now in
    let index = c.find_hinted-place.result.index in
    let span = c.find_hinted-place.result.span in
    let work : changed_by c.args.change span.work ≡ c.changed-span.result.work = sym (ap (λ (s : Span). s.work) c.changed-span.ensures) in
    c.changed-span.ensures
    ∙ with_spare-changed rows index c.args.change span c.requires.timed.filled.filled (due g after).within (found g after) (may g after)
    ∙ ap (λ n. with_spare (record span { work = n }) (first_spare (drop (index + 1) rows))) work

pub returns-clause-spans : goal.returns-clause-spans
returns-clause-spans g c =
    let after = (goal.at.returns-clause-spans g c).After-find_hinted-place in
    let rows = g.S.Store.spans c.args.store.now in
    let index = c.find_hinted-place.result.index in
    let work : c.changed-span.result.work ≡ changed_by c.args.change (get_or rows index no_row).work = ap (λ (s : Span). s.work) c.changed-span.ensures ∙ ap (λ (s : Span). changed_by c.args.change s.work) (found g after) in
    c.change_span.ensures.kept.spans ∙ c.set_work-stay.ensures.spans ∙ ap filled (ap (λ n. with_work_at index n rows) work ∙ sym ((due g after).changed (changed_by c.args.change)))

pub returns-clause-few_steps : goal.returns-clause-few_steps
returns-clause-few_steps g c =
    omega (arith, c.find_hinted-place.ensures.few_steps, c.find_hinted-place.ensures.index, c.set_work-stay.ensures.few_steps, place_of-ends_before c.args.deadline (g.S.Store.spans c.args.store.now))

-- the marks are still those of before
pub change_span-requires-clause-marks : goal.change_span-requires-clause-marks
change_span-requires-clause-marks g c = ap length c.set_work-stay.ensures.kept.numbers ∙ c.requires.timed.marked.length

pub change_span-requires-clause-works : goal.change_span-requires-clause-works
change_span-requires-clause-works g c =
    let rows = g.S.Store.spans c.args.store.now in
    rw c.set_work-stay.ensures.kept.numbers (few_works c.find_hinted-place.result.span.end c.requires.timed.marked (AreLight-FollowOn c.args.times.start rows (follows c.requires.timed)) c.requires.timed.filled.few)

pub returns-clause-marked : goal.returns-clause-marked
returns-clause-marked g c =
    let after = (goal.at.returns-clause-marked g c).After-find_hinted-place in
    let rows = g.S.Store.spans c.args.store.now in
    let marks = g.S.Store.marks c.args.store.now in
    let index = c.find_hinted-place.result.index in
    let span = c.find_hinted-place.result.span in
    let change = c.args.change in
    let i = mark_index span.end in
    let work : c.changed-span.result.work ≡ changed_by change span.work = ap (λ (s : Span). s.work) c.changed-span.ensures in
    let now = c.change_span.ensures.kept.spans ∙ c.set_work-stay.ensures.spans ∙ ap (λ n. filled (with_work_at index n rows)) work in
    let put = put_is (g.S.Store.marks c.set_work-stay.new.store) (g.S.Store.marks c.change_span.new.store) i (with_change change) (omega (arith, ap length c.set_work-stay.ensures.kept.numbers, c.requires.timed.marked.length)) c.change_span.ensures.marks in
    let same = put ∙ ap (λ ms. set ms i (with_change change (get_or ms i blank_mark))) c.set_work-stay.ensures.kept.numbers in
    let moves = Moves-filled (Moves-with_work_at rows index (changed_by change span.work) span c.find_hinted-place.ensures.span) in
    rw (now, same) (AreMarked-changed c.args.times.start rows (filled (with_work_at index (changed_by change span.work) rows)) marks span.end span.work change moves (may g after) c.requires.timed.marked)

pub returns-clause-front : goal.returns-clause-front
returns-clause-front g c = ap (take c.set_work-stay.result) c.change_span.ensures.kept.spans ∙ c.set_work-stay.ensures.front
