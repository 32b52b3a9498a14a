-- A part of the first line, or the first line and a part of the others.
use Rattle.std.proofs.Common.{◌≡◌, [], ◌++◌, refl, ap, subst}
use Rattle.std.specs.Prelude.{flat_map}
use Rattle.std.proofs.KnownBytes.{Appends-nil}
use Rattle.std.proofs.lemmas.Result.{on_err_weaker}
use Rattle.slot_io.specs.Sinks.{AppendsPart}
use Rattle.slot_io.proofs.SinkParts.{AppendsPart-more, AppendsPart-on, OnErr-anyhow}
use Rattle.gantt_print.specs.Drawings.{head_line, row_line, rows_text}
use Rattle.gantt_print.proofs.chart.put_chart.Goals as goal

pub returns-in_err-put_head-clause-part : goal.returns-in_err-put_head-clause-part
returns-in_err-put_head-clause-part g c =
    let before = g.K.Sink.written c.args.out.now in
    let after = g.K.Sink.written c.put_head.new.out in
    let head = head_line c.args.slots in
    let rows = rows_text c.args.tasks.now c.args.tracks.now in
    OnErr-anyhow c.from_residual.result (AppendsPart-more before before after [] head rows (head ++ rows) refl (Appends-nil before) c.in_err-put_head.ensures.part)

pub returns-clause-part : goal.returns-clause-part
returns-clause-part g c =
    let before = g.K.Sink.written c.args.out.now in
    let now = g.K.Sink.written c.put_head.new.out in
    let after = g.K.Sink.written c.put_rows.new.out in
    let head = head_line c.args.slots in
    let set = c.args.tasks.now in
    let rows = c.args.tracks.now in
    let width = c.label_width-width.result in
    let text : flat_map (row_line set width) rows ≡ rows_text set rows = ap (λ w. flat_map (row_line set w) rows) c.label_width-width.ensures.width in
    on_err_weaker c.put_rows.result
    (λ part. AppendsPart-on before now after head (rows_text set rows) (head ++ rows_text set rows) refl c.in_ok-put_head.ensures.ok (subst (AppendsPart now after) text part))
    c.put_rows.ensures.part
