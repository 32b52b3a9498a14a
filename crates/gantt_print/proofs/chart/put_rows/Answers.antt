-- One more line is written, or a part of it.
use Rattle.std.proofs.Common.{ap, ◌∙◌, arith}
use Rattle.slot_io.proofs.LineTexts.{line_more, part_more}
use Rattle.slot_io.proofs.SinkParts.{OnErr-anyhow}
use Rattle.gantt_print.specs.Drawings.{row_line}
use Rattle.gantt_print.proofs.chart.put_rows.Goals as goal

pub returns-in_err-put-clause-part : goal.returns-in_err-put-clause-part
returns-in_err-put-clause-part g c =
    let l = c.loop-track in
    let line = row_line c.args.tasks.now c.args.width in
    let text = c.bytes.ensures ∙ c.push_row.ensures ∙ ap line c.track-item.is in
    OnErr-anyhow c.from_residual.result (part_more (g.K.Sink.written c.args.out.now) (g.K.Sink.written l.out) (g.K.Sink.written c.put.new.self) line c.args.tracks.now l.track-index c.track-item.result c.bytes.result.now c.loop-track-test.true l.invariant.text text c.in_err-put.ensures.part)

pub loop-track-preserved : goal.loop-track-preserved
loop-track-preserved g c =
    let l = c.loop-track in
    let line = row_line c.args.tasks.now c.args.width in
    let text = c.bytes.ensures ∙ c.push_row.ensures ∙ ap line c.track-item.is in
    record {
      text = line_more (g.K.Sink.written c.args.out.now) (g.K.Sink.written l.out) (g.K.Sink.written c.put.new.self) line c.args.tracks.now l.track-index c.track-item.result c.bytes.result.now c.loop-track-test.true l.invariant.text text c.in_ok-put.ensures.ok;
      counted = omega (arith, c.put.ensures.counted, l.invariant.counted);
    }
