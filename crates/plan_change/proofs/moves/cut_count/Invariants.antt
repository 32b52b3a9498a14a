-- Those so far are counted.
use Rattle.std.proofs.Common.{◌≡◌, ◌≤◌, take}
use Rattle.plan_change.specs.Carrying.{cut_count}
use Rattle.plan_change.proofs.moves.cut_count.Given as goal

abbrev pub invariant-loop-job : goal.invariant-loop-job
invariant-loop-job l = record {
  counted : l.cut ≡ cut_count l.at l.cycle (take l.job-index l.jobs);
  few : l.cut ≤ l.job-index;
}
