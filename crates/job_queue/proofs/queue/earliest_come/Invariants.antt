use Rattle.std.proofs.Common.{◌≡◌, ◌+◌, drop}
use Rattle.std.specs.Prelude.{reverse}
use Rattle.slot_core.specs.Runs.Choice.{ready}
use Rattle.job_queue.proofs.queue.earliest_come.Given as goal

abbrev pub invariant-loop-behind : goal.invariant-loop-behind
invariant-loop-behind g l = record {
  later : ready l.now (reverse l.come) ≡ ready l.now (drop l.behind (reverse l.come));
  counted : l.steps ≡ l.initial.steps + l.behind;
}
