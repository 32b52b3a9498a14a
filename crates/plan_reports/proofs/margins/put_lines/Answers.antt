-- One more line is written, or a part of it.
use Rattle.std.proofs.Common.{◌∙◌, arith}
use Rattle.slot_io.proofs.LineTexts.{line_more, part_more}
use Rattle.slot_io.proofs.SinkParts.{OnErr-anyhow}
use Rattle.plan_reports.specs.MarginLines.{margin_line}
use Rattle.plan_reports.proofs.margins.put_lines.Goals as goal

pub returns-in_err-put-clause-part : goal.returns-in_err-put-clause-part
returns-in_err-put-clause-part g c =
    let l = c.loop-margin in
    OnErr-anyhow c.from_residual.result (part_more (g.K.Sink.written c.args.out.now) (g.K.Sink.written l.out) (g.K.Sink.written c.put.new.self) (margin_line c.args.tasks.now) c.args.margins.now l.margin-index _ c.bytes.result.now c.loop-margin-test.true l.invariant.text (c.bytes.ensures ∙ c.push_margin.ensures) c.in_err-put.ensures.part)

pub loop-margin-preserved : goal.loop-margin-preserved
loop-margin-preserved g c =
    let l = c.loop-margin in
    record {
      text = line_more (g.K.Sink.written c.args.out.now) (g.K.Sink.written l.out) (g.K.Sink.written c.put.new.self) (margin_line c.args.tasks.now) c.args.margins.now l.margin-index _ c.bytes.result.now c.loop-margin-test.true l.invariant.text (c.bytes.ensures ∙ c.push_margin.ensures) c.in_ok-put.ensures.ok;
      counted = omega (arith, c.put.ensures.counted, l.invariant.counted);
    }
