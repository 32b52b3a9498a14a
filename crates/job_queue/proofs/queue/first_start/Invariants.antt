use Rattle.std.proofs.Common.{◌≡◌, ◌+◌, fold, take}
use Rattle.std.specs.Prelude.{filter}
use Rattle.std.specs.Option.{option_copied}
use Rattle.job_queue.specs.Starts.{sooner, starts_within}
use Rattle.job_queue.proofs.queue.first_start.Given as goal

abbrev pub invariant-loop-job : goal.invariant-loop-job
invariant-loop-job g l = record {
  first : l.first ≡ fold sooner l.fn.start (filter (starts_within l.now l.until (option_copied l.other)) (take l.job-index l.jobs));
  counted : l.steps ≡ l.initial.steps + l.job-index;
}
