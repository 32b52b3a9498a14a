-- One more line is written, or a part of it.
use Rattle.std.proofs.Common.{◌∙◌, arith}
use Rattle.slot_core.specs.Output.Reports.{job_line}
use Rattle.slot_io.proofs.LineTexts.{line_more, part_more}
use Rattle.slot_io.proofs.SinkParts.{OnErr-anyhow}
use Rattle.plan_reports.proofs.show_jobs.Goals as goal

pub returns-in_err-put-clause-part : goal.returns-in_err-put-clause-part
returns-in_err-put-clause-part g c =
    let l = c.loop-job in
    OnErr-anyhow c.from_residual.result (part_more (g.K.Sink.written c.args.out.now) (g.K.Sink.written l.out) (g.K.Sink.written c.put.new.self) (job_line c.args.tasks.now) c.args.jobs.now l.job-index _ c.bytes.result.now c.loop-job-test.true l.invariant.text (c.bytes.ensures ∙ c.job_line.ensures) c.in_err-put.ensures.part)

pub loop-job-preserved : goal.loop-job-preserved
loop-job-preserved g c =
    let l = c.loop-job in
    record {
      text = line_more (g.K.Sink.written c.args.out.now) (g.K.Sink.written l.out) (g.K.Sink.written c.put.new.self) (job_line c.args.tasks.now) c.args.jobs.now l.job-index _ c.bytes.result.now c.loop-job-test.true l.invariant.text (c.bytes.ensures ∙ c.job_line.ensures) c.in_ok-put.ensures.ok;
      counted = omega (arith, c.put.ensures.counted, l.invariant.counted);
    }
