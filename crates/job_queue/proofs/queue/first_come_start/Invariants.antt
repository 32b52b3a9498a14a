use Rattle.std.proofs.Common.{◌≡◌, ◌+◌, drop, fold}
use Rattle.std.specs.Prelude.{filter, reverse}
use Rattle.std.specs.Option.{option_copied}
use Rattle.job_queue.specs.Starts.{sooner, starts_within}
use Rattle.job_queue.proofs.queue.first_come_start.Given as goal

abbrev pub invariant-loop-behind : goal.invariant-loop-behind
invariant-loop-behind g l =
    let passes = starts_within l.now l.until (option_copied l.other) in
    record {
      passed : fold sooner l.first (filter passes (drop l.behind (reverse l.come))) ≡ fold sooner l.fn.start (filter passes (reverse l.come));
      counted : l.steps ≡ l.initial.steps + l.behind;
    }
