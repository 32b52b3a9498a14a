use Rattle.table_codec.specs.Grammar.{job_form}
use Rattle.table_codec.proofs.WrittenSteps.{writes_at}
use Rattle.std.proofs.Common.{arith, rules}
use Rattle.std.proofs.lemmas.Grind.{common_steps}
use Rattle.table_codec.proofs.writer.put_each_job.Goals as goal

pub loop-job-preserved : goal.loop-job-preserved
loop-job-preserved c =
    writes_at (job_form c.args.layout).written c.args.jobs.now c.loop-job.job-index _ c.args.out.now.items c.loop-job.out.items c.put_job.new.out.items c.loop-job-test.true c.loop-job.invariant c.in_ok-put_job.ensures

pub returns-in_err-put_job : goal.returns-in_err-put_job
returns-in_err-put_job c = search rules

pub returns : goal.returns
returns c = grind (arith, common_steps)
