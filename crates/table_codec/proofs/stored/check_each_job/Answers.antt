use Rattle.std.proofs.lemmas.Result.{err_from_is_err_and}
use Rattle.faults.specs.declared.table_fault.TableFault.TheVariants.{WrongJob}
use Rattle.table_codec.specs.Grammar.{is_same_job, job_form}
use Rattle.table_codec.specs.Readers.{same_at}
use Rattle.table_codec.proofs.SameSteps.{ends}
use Rattle.std.proofs.Common.{arith}
use Rattle.std.proofs.lemmas.Grind.{common_steps}
use Rattle.table_codec.proofs.stored.check_each_job.Goals as goal

pub returns-in_err-stored : goal.returns-in_err-stored
returns-in_err-stored c =
    let all = same_at (job_form c.args.layout).read is_same_job WrongJob 0 c.args.jobs.now c.args.input.now in
    let p = err_from_is_err_and c.from_residual.result c.from_residual.ensures.1 in
    rw (p.1, p.2) (ends (job_form c.args.layout).read is_same_job WrongJob c.args.jobs.now c.loop-place.place c.in_err-stored.field-0.0 c.loop-place.input all c.loop-place-test.true c.in_err-stored.ensures c.loop-place.invariant)

pub returns-then-not-is_same_job : goal.returns-then-not-is_same_job
returns-then-not-is_same_job c = grind (arith, common_steps)

pub loop-place-preserved : goal.loop-place-preserved
loop-place-preserved c = grind (arith, common_steps)

pub returns : goal.returns
returns c = grind (arith, common_steps)
