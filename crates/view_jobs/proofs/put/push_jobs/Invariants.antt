-- The rows of the jobs so far are appended.
use Rattle.std.proofs.Common.{◌≡◌, ℕ, ◌++◌, List, Some, take}
use Rattle.view_jobs.specs.Tallies.{tally_in}
use Rattle.view_jobs.proofs.JobTexts.{jobs_rows}
use Rattle.view_jobs.proofs.put.push_jobs.Given as goal

abbrev pub invariant-loop-job : goal.invariant-loop-job
invariant-loop-job l = (before : List ℕ) → l.initial.rows ≡ Some before → l.rows ≡ Some (before ++ jobs_rows l.tasks (tally_in l.tallies) (take l.job-index l.jobs))
