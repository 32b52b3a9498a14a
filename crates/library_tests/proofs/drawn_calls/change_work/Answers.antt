use Rattle.std.proofs.Common.{◌≤◌, ◌+◌, ◌^◌, ◌%◌, arith}
use Rattle.slot_core.specs.declared.jobs.Span.{Span}
use Rattle.interval_row.proofs.Places.{span_ending-at}
use Rattle.library_tests.proofs.drawn_calls.change_work.Goals as goal

pub charge-requires : goal.charge-requires
charge-requires g c =
    let spans = g.T.SpareTable.spans c.args.table.now in
    let table = c.count.ensures.table in
    span_ending-at (g.T.SpareTable.time c.args.table.now) spans c.spot_near-spot.result.0 c.read-row.result (λ (s : Span). s.work + c.args.amount % 8 ≤ 2 ^ 40) table.consecutive table.proper c.read-row.ensures.span (omega arith)

pub give_back-requires : goal.give_back-requires
give_back-requires g c =
    let spans = g.T.SpareTable.spans c.args.table.now in
    let table = c.count.ensures.table in
    span_ending-at (g.T.SpareTable.time c.args.table.now) spans c.spot_near-spot.result.0 c.read-row.result (λ (s : Span). c.args.amount % 8 ≤ s.work) table.consecutive table.proper c.read-row.ensures.span (omega (arith, c.from.ensures))
