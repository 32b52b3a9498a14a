use Rattle.std.proofs.Common.{◌≡◌, ◌+◌, ◌-ℤ◌, ◌∙◌, pos, drop, get_or, set, length, ap, sym, arith}
use Rattle.std.proofs.lemmas.Int.{ints}
use Rattle.std.proofs.lemmas.Option.{get_or_from_slice_get}
use Rattle.slot_core.specs.declared.jobs.Span.{Span}
use Rattle.spare_capacity.specs.Recurrence.{first_start}
use Rattle.spare_capacity.proofs.Steps.{no_row}
use Rattle.node_chain.specs.Laps.{blank_mark}
use Rattle.interval_row.specs.Marks.{mark_index, without_end}
use Rattle.interval_row.proofs.Marked.{put_is, AreMarked-lost, AreMarked-Stays, Gains-drop, Stays-set}
use Rattle.interval_row.proofs.WalkBack.{passed-on, IsProper-first, IsWithin-spare}
use Rattle.interval_row.proofs.changes.pass.Goals as goal

pub later_start-requires-clause-low : goal.later_start-requires-clause-low
later_start-requires-clause-low g c =
    let rows = g.S.Store.spans c.args.store.now in
    let span = get_or_from_slice_get rows 0 c.at-span.result no_row c.at-span.ensures.span in
    let within = IsWithin-spare (first_start rows) rows 0 c.requires.filled.consecutive c.requires.filled.filled c.requires.filled.few (omega (arith, c.requires.filled.some)) in
    omega (arith, ints, within.low, ap (λ (s : Span). s.spare) span)

pub drop_span-requires : goal.drop_span-requires
drop_span-requires g c = record { marks = ap length c.pop_front-passed.ensures.kept.numbers ∙ c.requires.marked.length }

pub returns-then-span-clause-marked : goal.returns-then-span-clause-marked
returns-then-span-clause-marked g c =
    let rows = g.S.Store.spans c.args.store.now in
    let marks = g.S.Store.marks c.args.store.now in
    let passed = c.pop_front-passed.result in
    let i = mark_index passed.end in
    let gains = Gains-drop rows passed c.pop_front-passed.ensures.first in
    let now = c.drop_span.ensures.kept.spans ∙ c.pop_front-passed.ensures.rest in
    let put = put_is (g.S.Store.marks c.pop_front-passed.new.self) (g.S.Store.marks c.drop_span.new.store) i (without_end passed.work) (omega (arith, ap length c.pop_front-passed.ensures.kept.numbers, c.requires.marked.length)) c.drop_span.ensures.marks in
    let same = put ∙ ap (λ ms. set ms i (without_end passed.work (get_or ms i blank_mark))) c.pop_front-passed.ensures.kept.numbers in
    rw (now, same) (AreMarked-lost (first_start rows) rows (drop 1 rows) marks passed.end passed.work gains c.requires.marked)

pub returns-clause-marked : goal.returns-clause-marked
returns-clause-marked g c =
    let rows = g.S.Store.spans c.args.store.now in
    let stays = Stays-set rows c.at-span.result c.later_start.result c.at-span.ensures.span (ap (λ (s : Span). s.end) c.later_start.ensures) (ap (λ (s : Span). s.work) c.later_start.ensures) in
    rw (c.set.ensures.spans, c.set.ensures.kept.numbers) (AreMarked-Stays stays c.requires.marked)

pub returns-clause-spans : goal.returns-clause-spans
returns-clause-spans g c =
    let rows = g.S.Store.spans c.args.store.now in
    let span = sym (get_or_from_slice_get rows 0 c.at-span.result no_row c.at-span.ensures.span) in
    let low = IsProper-first rows c.requires.filled.proper c.requires.filled.some in
    let more = λ (e : (get_or rows 0 no_row).start + 1 ≡ (get_or rows 0 no_row).end). c.if-span.false (ap (λ (s : Span). s.start + 1) span ∙ e ∙ sym (ap (λ (s : Span). s.end) span)) in
    let put = c.later_start.ensures ∙ ap (λ (s : Span). record s { start = s.start + 1; spare = s.spare -ℤ pos 1 }) span in
    c.set.ensures.spans ∙ passed-on rows c.later_start.result c.requires.filled.filled c.requires.filled.some low more put
