-- Each slot has the least start of the jobs so far that are due there.
use Rattle.std.proofs.Common.{◌≡◌, ℕ, ◌+◌, ◌<◌, length, get_or, take}
use Rattle.slot_core.specs.Runs.Points.{least_start}
use Rattle.interval_build.proofs.points.least_starts.Given as goal

abbrev pub invariant-loop-job : goal.invariant-loop-job
invariant-loop-job l = record {
  places : length l.starts.items ≡ l.cycle + 1;
  starts : (end : ℕ) → end < l.cycle + 1 → get_or l.starts.items end 0 ≡ least_start (take l.job-index l.jobs) end end;
}
