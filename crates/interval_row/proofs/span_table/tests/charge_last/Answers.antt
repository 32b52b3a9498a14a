use Rattle.std.proofs.Common.{◌≤◌, ◌+◌, ◌-◌, ◌^◌, ◌∙◌, slice_get, ap, sym, arith}
use Rattle.slot_core.specs.declared.jobs.Span.{Span}
use Rattle.spare_capacity.specs.Recurrence.{first_start}
use Rattle.interval_row.proofs.Places.{span_ending-at}
use Rattle.interval_row.proofs.span_table.tests.charge_last.Goals as goal

pub charge-requires : goal.charge-requires
charge-requires g c =
    let spans = c.args.table.now.spans in
    let table = c.count.ensures.table in
    span_ending-at (first_start spans) spans (c.count.result - 1) c.read-span.result (λ (s : Span). s.work + c.args.slots ≤ 2 ^ 40) table.consecutive table.proper (ap (slice_get spans) (sym c.spot-last.ensures) ∙ c.read-span.ensures.span) (omega arith)
