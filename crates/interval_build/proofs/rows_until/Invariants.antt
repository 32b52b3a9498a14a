use Rattle.std.proofs.Common.{◌≡◌, ◌++◌, drop, filter}
use Rattle.slot_core.specs.Keeping.Plans.{AreInDeadlineOrder}
use Rattle.slot_core.specs.Runs.Rising.{AreRising}
use Rattle.interval_build.specs.Rows.{rows_between}
use Rattle.interval_build.proofs.Due.{is_due_after}
use Rattle.interval_build.proofs.rows_until.Given as goal

-- the rows so far and those of the points to come are all rows; the rest of the jobs is what is due after the last row
abbrev pub invariant-loop-point : goal.invariant-loop-point
invariant-loop-point l = record {
  rows : l.rows.items ++ rows_between l.jobs l.from (drop l.point-index l.points) ≡ rows_between l.jobs l.start l.points;
  rising : AreRising l.from (drop l.point-index l.points);
  rest : l.rest ≡ filter (is_due_after l.from) l.jobs;
  ordered : AreInDeadlineOrder l.rest;
}
