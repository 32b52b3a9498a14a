-- The slot is marked where the row has it and holds the key.
use Rattle.std.proofs.Common.{◌∷◌, [], length, sym, ap, ◌∙◌, arith}
use Rattle.slot_core.specs.Output.Charts.{is_in_row}
use Rattle.gantt_print.specs.Drawings.{MarkedRow, with_runs}
use Rattle.gantt_print.specs.Rows.{row_of}
use Rattle.gantt_print.proofs.MarkLemmas.{with_runs-marks, with_runs-outside, with_runs-past}
use Rattle.gantt_print.proofs.rows.Track.mark.Goals as goal
use Rattle.gantt_print.proofs.rows.Track.mark.Goals.{else-holds-via-then-holds+else-slot-len, else-holds-via-else-holds}

pub returns-then-slot-len : goal.returns-then-slot-len
returns-then-slot-len c =
    let r : MarkedRow = record { row = row_of c.self.inside.row; marks = c.self.inside.marks.items } in
    with_runs-marks c.args.slot c.args.key r (sym c.holds.ensures ∙ c.if-holds.true) (omega (arith, c.self.inside.marks.ok)) ∙ ap (with_runs ((c.args.slot, c.args.key) ∷ [])) c.self.view_is

pub returns-else-holds : goal.returns-else-holds
returns-else-holds c =
    elim c.else-holds.branch [
      | else-holds-via-then-holds+else-slot-len w ↦
          let same = ap (λ (r : MarkedRow). length r.marks) c.self.view_is in
          with_runs-past c.args.slot c.args.key c.args.self.now (omega (arith, same, c.self.inside.marks.ok, w.len.ensures, w.if-slot-len.false))
      | else-holds-via-else-holds w ↦
          let same = ap (λ (r : MarkedRow). is_in_row r.row c.args.key) c.self.view_is in
          with_runs-outside c.args.slot c.args.key c.args.self.now (sym same ∙ sym c.holds.ensures ∙ w.if-holds.false)
    ]
