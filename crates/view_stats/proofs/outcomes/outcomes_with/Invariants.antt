-- What came of the jobs so far.
use Rattle.std.proofs.Common.{◌≡◌, take}
use Rattle.view_jobs.specs.Tallies.{tally_in}
use Rattle.view_stats.specs.Outcomes.{outcomes_with}
use Rattle.view_stats.proofs.outcomes.outcomes_with.Given as goal

abbrev pub invariant-loop-job : goal.invariant-loop-job
invariant-loop-job l = l.outcomes.items ≡ outcomes_with (tally_in l.tallies) (take l.job-index l.jobs)
