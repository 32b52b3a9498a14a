use Rattle.std.proofs.Common.{◌≡◌, ◌++◌, take}
use Rattle.std.specs.Prelude.{flat_map}
use Rattle.table_codec.specs.Grammar.{job_form}
use Rattle.table_codec.proofs.writer.put_each_job.Given as goal

abbrev pub invariant-loop-job : goal.invariant-loop-job
invariant-loop-job l = l.out.items ≡ l.fn.out.items ++ flat_map (job_form l.layout).written (take l.job-index l.jobs)
