use Rattle.std.proofs.Common.{◌≡◌, ◌≤◌}
use Rattle.slot_core.specs.Runs.Matches.{HaveSameItems}
use Rattle.job_queue.proofs.queue.JobQueue.come.Given as goal

abbrev pub invariant-loop : goal.invariant-loop
invariant-loop g l = record {
  jobs : HaveSameItems l.self.jobs l.initial.self.jobs;
  capacity : l.self.capacity ≡ l.initial.self.capacity;
  steps : l.initial.steps ≤ l.steps;
}
