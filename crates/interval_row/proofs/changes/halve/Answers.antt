use Rattle.std.proofs.Common.{◌≡◌, ℕ, ◌+◌, ◌-◌, ◌<◌, ◌-ℤ◌, ◌∙◌, suc, pos, length, get_or, set, insert, ap, sym, arith}
use Rattle.std.proofs.lemmas.Int.{ints}
use Rattle.std.proofs.lemmas.List.Edits.{length-insert}
use Rattle.std.proofs.lemmas.Option.{slice_get_within, get_or_from_slice_get}
use Rattle.slot_core.specs.declared.jobs.Span.{Span}
use Rattle.spare_capacity.specs.Recurrence.{filled, first_start, with_spare}
use Rattle.spare_capacity.specs.Refill.{IsShort}
use Rattle.spare_capacity.proofs.Steps.{no_row}
use Rattle.interval_row.specs.Changes.{part_before, part_from}
use Rattle.interval_row.proofs.Stores.{Keeps-both}
use Rattle.interval_row.proofs.Cuts.{cut-halved}
use Rattle.interval_row.proofs.WalkBack.{halves-filled, HoldsInside-at, IsShort-at, IsWithin, IsWithin-spare}
use Rattle.interval_row.proofs.changes.halve.Given.{Over}
use Rattle.interval_row.proofs.changes.halve.Goals as goal
use Rattle.interval_row.proofs.changes.halve.Goals.{After-part_from}

-- what holds of the span that becomes two
record Halved (at : ℕ) (span : Span) : Type 0 where
  low : span.start < at
  high : at < span.end
  short : IsShort span
  within : IsWithin span.spare

row_is : (g : Over) (c : After-part_from g) → c.args.place.span ≡ get_or (g.S.Store.spans c.args.store.now) c.args.place.index no_row
row_is g c = sym (get_or_from_slice_get (g.S.Store.spans c.args.store.now) c.args.place.index c.args.place.span no_row c.requires.span)

halved : (g : Over) (c : After-part_from g) → Halved c.args.at c.args.place.span
halved g c =
    let rows = g.S.Store.spans c.args.store.now in
    let index = c.args.place.index in
    let l = slice_get_within rows index c.args.place.span c.requires.span in
    let inside = HoldsInside-at c.args.at index rows c.requires.inside in
    rw (row_is g c) (record {
      low = inside.0;
      high = inside.1;
      short = IsShort-at (first_start rows) rows index c.requires.filled.consecutive l;
      within = IsWithin-spare (first_start rows) rows index c.requires.filled.consecutive c.requires.filled.filled c.requires.filled.few l;
    })

pub overflow_sub-at : goal.overflow_sub-at
overflow_sub-at g c = omega (arith, (halved g (goal.at.overflow_sub-at g c).After-part_from).low)

pub lowered-second-requires-clause-low : goal.lowered-second-requires-clause-low
lowered-second-requires-clause-low g c =
    omega (arith, ints, (halved g (goal.at.lowered-second-requires-clause-low g c).After-part_from).within.low, ap (λ (s : Span). s.spare) c.part_from.ensures)

pub lowered-second-requires-clause-few : goal.lowered-second-requires-clause-few
lowered-second-requires-clause-few g c =
    let h = halved g (goal.at.lowered-second-requires-clause-few g c).After-part_from in
    omega (arith, h.low, h.high, h.short.length)

pub refilled-first-requires-clause-short : goal.refilled-first-requires-clause-short
refilled-first-requires-clause-short g c =
    let h = halved g (goal.at.refilled-first-requires-clause-short g c).After-part_from in
    rw c.part_before.ensures (record { rising = omega (arith, h.low); length = omega (arith, h.low, h.high, h.short.length); work = omega arith })

pub refilled-first-requires-clause-borrows_few : goal.refilled-first-requires-clause-borrows_few
refilled-first-requires-clause-borrows_few g c =
    let h = halved g (goal.at.refilled-first-requires-clause-borrows_few g c).After-part_from in
    omega (arith, ints, h.low, h.high, h.short.length, h.within.low, ap (λ (s : Span). s.spare) c.part_from.ensures, ap (λ (s : Span). s.spare) c.lowered-second.ensures)

pub set-requires : goal.set-requires
set-requires g c =
    let rows = g.S.Store.spans c.args.store.now in
    let l = slice_get_within rows c.args.place.index c.args.place.span c.requires.span in
    omega (arith, l, ap length c.insert.ensures.spans, length-insert rows c.args.place.index c.refilled-first.result (omega (arith, l)))

pub returns-clause-spans : goal.returns-clause-spans
returns-clause-spans g c =
    let rows = g.S.Store.spans c.args.store.now in
    let index = c.args.place.index in
    let at = c.args.at in
    let first = c.refilled-first.result in
    let second = c.lowered-second.result in
    let is = row_is g (goal.at.returns-clause-spans g c).After-part_from in
    let next : index + 1 ≡ suc index = omega arith in
    let later = c.lowered-second.ensures ∙ ap (λ (s : Span). record s { spare = s.spare -ℤ pos (at - c.args.place.span.start) }) c.part_from.ensures ∙ ap (λ (s : Span). record (part_from at s) { spare = s.spare -ℤ pos (at - s.start) }) is in
    let earlier = c.refilled-first.ensures ∙ ap (λ (s : Span). with_spare s second.spare) c.part_before.ensures ∙ ap (λ (s : Span). with_spare (part_before at s) second.spare) is in
    c.set.ensures.spans
    ∙ ap (λ xs. set xs (index + 1) second) c.insert.ensures.spans
    ∙ ap (λ k. set (insert rows index first) k second) next
    ∙ halves-filled at index rows first second c.requires.filled.filled c.requires.inside later earlier
    ∙ ap filled (sym (cut-halved (first_start rows) at index rows c.requires.filled.consecutive c.requires.found c.requires.inside))

pub returns-clause-steps : goal.returns-clause-steps
returns-clause-steps g c = omega (arith, c.insert.ensures.three_steps, c.set.ensures.one_step)

pub overflow_add-place : goal.overflow_add-place
overflow_add-place g c =
    omega (arith, slice_get_within (g.S.Store.spans c.args.store.now) c.args.place.index c.args.place.span c.requires.span, c.requires.filled.few)

pub returns-clause-kept : goal.returns-clause-kept
returns-clause-kept g c = Keeps-both c.insert.ensures.kept c.set.ensures.kept
