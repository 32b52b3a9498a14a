use Rattle.std.proofs.Common.{◌∙◌, get_or, ap, arith, sym}
use Rattle.std.proofs.lemmas.Option.{slice_get_within, get_or_from_slice_get}
use Rattle.slot_core.specs.declared.jobs.Span.{Span}
use Rattle.spare_capacity.specs.Recurrence.{first_start}
use Rattle.spare_capacity.proofs.Steps.{no_row}
use Rattle.interval_row.proofs.Places.{ends-span_ending, place_of-ending}
use Rattle.interval_row.proofs.walk.find_hinted.Goals as goal
use Rattle.interval_row.proofs.walk.find_hinted.Goals.{then-hint-len+else-span-x, else-hint-len}

-- the span at the hint ends at x
pub returns-then-span-x-clause-index : goal.returns-then-span-x-clause-index
returns-then-span-x-clause-index g c =
    let rows = g.S.Store.spans c.args.store.now in
    let span = get_or_from_slice_get rows c.args.hint c.at-span.result no_row c.at-span.ensures.span in
    place_of-ending (first_start rows) c.args.x rows c.args.hint c.requires.timed.filled.consecutive c.requires.timed.filled.proper (slice_get_within rows c.args.hint c.at-span.result c.at-span.ensures.span) (ap (λ (s : Span). s.end) span ∙ c.if-span-x.true)

-- where the span is the one at the hint, there is no walk
pub returns-clause-hinted : goal.returns-clause-hinted
returns-clause-hinted g c =
    λ here found.
    let rows = g.S.Store.spans c.args.store.now in
    elim c.if-hint-len.branch [
      | then-hint-len+else-span-x w ↦
          let span = get_or_from_slice_get rows c.args.hint w.at-span.result no_row w.at-span.ensures.span in
          let ends = ends-span_ending (first_start rows) rows c.args.x c.requires.timed.filled.consecutive found in
          absurd (w.if-span-x.false (sym (ap (λ (s : Span). s.end) span) ∙ ap (λ k. (get_or rows k no_row).end) here ∙ ends))
      | else-hint-len w ↦ absurd (omega (arith, w.if-hint-len.false, c.len.ensures, c.requires.within, here))
    ]
