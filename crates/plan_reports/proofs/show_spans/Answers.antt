-- One more line is written, or a part of it.
use Rattle.std.proofs.Common.{◌∙◌, arith}
use Rattle.slot_core.specs.Output.Reports.{span_line}
use Rattle.slot_io.proofs.LineTexts.{line_more, part_more}
use Rattle.slot_io.proofs.SinkParts.{OnErr-anyhow}
use Rattle.plan_reports.proofs.show_spans.Goals as goal

pub returns-in_err-put-clause-part : goal.returns-in_err-put-clause-part
returns-in_err-put-clause-part g c =
    let l = c.loop-span in
    OnErr-anyhow c.from_residual.result (part_more (g.K.Sink.written c.args.out.now) (g.K.Sink.written l.out) (g.K.Sink.written c.put.new.self) span_line c.args.spans.now l.span-index _ c.bytes.result.now c.loop-span-test.true l.invariant.text (c.bytes.ensures ∙ c.span_line.ensures) c.in_err-put.ensures.part)

pub loop-span-preserved : goal.loop-span-preserved
loop-span-preserved g c =
    let l = c.loop-span in
    record {
      text = line_more (g.K.Sink.written c.args.out.now) (g.K.Sink.written l.out) (g.K.Sink.written c.put.new.self) span_line c.args.spans.now l.span-index _ c.bytes.result.now c.loop-span-test.true l.invariant.text (c.bytes.ensures ∙ c.span_line.ensures) c.in_ok-put.ensures.ok;
      counted = omega (arith, c.put.ensures.counted, l.invariant.counted);
    }
