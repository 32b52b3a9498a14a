-- One more line is written, or a part of it.
use Rattle.std.proofs.Common.{◌∙◌, arith}
use Rattle.future_check.specs.Explanations.{arrival_line}
use Rattle.slot_io.proofs.LineTexts.{line_more, part_more}
use Rattle.future_check.proofs.lines.put_arrivals.Goals as goal
use Rattle.slot_io.proofs.SinkParts.{OnErr-anyhow}

pub returns-in_err-put-clause-part : goal.returns-in_err-put-clause-part
returns-in_err-put-clause-part g c =
    let l = c.loop-arrival in
    OnErr-anyhow c.from_residual.result (part_more (g.K.Sink.written c.args.out.now) (g.K.Sink.written l.out) (g.K.Sink.written c.put.new.self) (arrival_line c.args.tasks.now) c.args.arrivals.now l.arrival-index _ c.bytes.result.now c.loop-arrival-test.true l.invariant.text (c.bytes.ensures ∙ c.push_arrival.ensures) c.in_err-put.ensures.part)

pub loop-arrival-preserved : goal.loop-arrival-preserved
loop-arrival-preserved g c =
    let l = c.loop-arrival in
    record {
      text = line_more (g.K.Sink.written c.args.out.now) (g.K.Sink.written l.out) (g.K.Sink.written c.put.new.self) (arrival_line c.args.tasks.now) c.args.arrivals.now l.arrival-index _ c.bytes.result.now c.loop-arrival-test.true l.invariant.text (c.bytes.ensures ∙ c.push_arrival.ensures) c.in_ok-put.ensures.ok;
      counted = omega (arith, c.put.ensures.counted, l.invariant.counted);
    }
