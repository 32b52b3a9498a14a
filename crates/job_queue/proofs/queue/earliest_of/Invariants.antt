use Rattle.std.proofs.Common.{◌≡◌, ◌+◌, take}
use Rattle.std.specs.Option.{option_copied}
use Rattle.slot_core.specs.Runs.Choice.{earliest, ready}
use Rattle.job_queue.proofs.queue.earliest_of.Given as goal

abbrev pub invariant-loop-job : goal.invariant-loop-job
invariant-loop-job g l = record {
  chosen : option_copied l.best ≡ earliest (ready l.now (take l.job-index l.jobs));
  counted : l.steps ≡ l.initial.steps + l.job-index;
}
