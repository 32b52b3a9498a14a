use Rattle.std.proofs.Common.{◌≡◌, ◌+◌, ◌≤◌, ◌++◌, fold, length}
use Rattle.std.specs.Prelude.{count_by, filter, nat_lt}
use Rattle.std.specs.List.Sorted.{IsNonDecreasingBy}
use Rattle.std.specs.Option.{option_copied}
use Rattle.slot_core.specs.declared.jobs.Job.{Job}
use Rattle.job_queue.specs.Starts.{sooner, starts_within}
use Rattle.job_queue.proofs.queue.first_listed.Given as goal

abbrev pub invariant-loop-job : goal.invariant-loop-job
invariant-loop-job g l =
    let rest = l.job-iterator.head.now ++ l.job-iterator.wrapped.now in
    let passes = starts_within l.now l.until (option_copied l.other) in
    record {
      passed : fold sooner l.start (filter passes rest) ≡ fold sooner l.start (filter passes l.listed.items);
      ordered : IsNonDecreasingBy (λ (j : Job). j.est) rest;
      risen : l.initial.steps ≤ l.steps;
      soon : l.steps + count_by (λ (j : Job). nat_lt j.est l.until) rest ≡ l.initial.steps + count_by (λ (j : Job). nat_lt j.est l.until) l.listed.items;
      counted : l.steps + length rest ≡ l.initial.steps + length l.listed.items;
    }
