use Rattle.std.proofs.Common.{◌≡◌, ◌+◌, ◌≤◌, ◌++◌, fold, length}
use Rattle.std.specs.List.Sorted.{IsNonDecreasingBy}
use Rattle.std.specs.Option.{option_copied}
use Rattle.slot_core.specs.declared.jobs.Job.{Job}
use Rattle.slot_core.specs.Runs.Choice.{earlier_of, ready}
use Rattle.job_queue.proofs.queue.earliest_listed.Given as goal

abbrev pub invariant-loop-job : goal.invariant-loop-job
invariant-loop-job g l =
    let rest = l.job-iterator.head.now ++ l.job-iterator.wrapped.now in
    let jobs = l.listed.items in
    record {
      chosen : fold earlier_of (option_copied l.best) (ready l.now rest) ≡ fold earlier_of (option_copied l.initial.best) (ready l.now jobs);
      ordered : IsNonDecreasingBy (λ (j : Job). j.est) rest;
      ready : l.initial.steps + length (ready l.now jobs) ≤ l.steps + length (ready l.now rest);
      counted : l.steps + length rest ≡ l.initial.steps + length jobs;
    }
