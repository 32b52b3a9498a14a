-- One more line is put, or a part of it.
use Rattle.std.proofs.Common.{◌∙◌, arith}
use Rattle.slot_io.proofs.LineTexts.{line_more, part_more}
use Rattle.slot_io.proofs.SinkParts.{OnErr-anyhow}
use Rattle.live_run.specs.Carried.{carried_line}
use Rattle.live_run.proofs.carried.put_each.Goals as goal

pub returns-in_err-put_answer-clause-part : goal.returns-in_err-put_answer-clause-part
returns-in_err-put_answer-clause-part g c =
    let l = c.loop-job in
    OnErr-anyhow c.from_residual.result (part_more (g.K.Sink.written c.args.out.now) (g.K.Sink.written l.out) (g.K.Sink.written c.put_answer.new.out) (carried_line c.args.tasks.now c.args.now) c.args.jobs.now l.job-index _ c.bytes.result.now c.loop-job-test.true l.invariant.put (c.bytes.ensures ∙ c.carried_line-line.ensures) c.in_err-put_answer.ensures.part)

pub loop-job-preserved : goal.loop-job-preserved
loop-job-preserved g c =
    let l = c.loop-job in
    record {
      put = line_more (g.K.Sink.written c.args.out.now) (g.K.Sink.written l.out) (g.K.Sink.written c.put_answer.new.out) (carried_line c.args.tasks.now c.args.now) c.args.jobs.now l.job-index _ c.bytes.result.now c.loop-job-test.true l.invariant.put (c.bytes.ensures ∙ c.carried_line-line.ensures) c.in_ok-put_answer.ensures.put;
      counted = omega (arith, c.put_answer.ensures.counted, l.invariant.counted);
    }
