-- The windows of the jobs so far.
use Rattle.std.proofs.Common.{◌≡◌, map, take}
use Rattle.window_derive.specs.GraphChains.{job_by}
use Rattle.window_derive.proofs.windows.windows_of.Given as goal

abbrev pub invariant-loop-job : goal.invariant-loop-job
invariant-loop-job l = l.jobs.items ≡ map (job_by l.chains) (take l.job-index l.raw)
