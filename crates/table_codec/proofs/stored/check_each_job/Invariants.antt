use Rattle.std.proofs.Common.{◌≡◌, drop}
use Rattle.faults.specs.declared.table_fault.TableFault.TheVariants.{WrongJob}
use Rattle.table_codec.specs.Grammar.{is_same_job, job_form}
use Rattle.table_codec.specs.Readers.{same_at}
use Rattle.table_codec.proofs.stored.check_each_job.Given as goal

abbrev pub invariant-loop-place : goal.invariant-loop-place
invariant-loop-place l =
    same_at (job_form l.layout).read is_same_job WrongJob l.place (drop l.place l.jobs) l.input ≡ same_at (job_form l.layout).read is_same_job WrongJob 0 l.jobs l.fn.input
