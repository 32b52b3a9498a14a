-- The points up to the last deadline before this slot.
use Rattle.std.proofs.Common.{◌≡◌}
use Rattle.slot_core.specs.Runs.Points.{end_before}
use Rattle.slot_facts.proofs.Plans.CyclePoints.{points_by}
use Rattle.interval_build.proofs.points.cycle_points.Given as goal

abbrev pub invariant-loop-end : goal.invariant-loop-end
invariant-loop-end l = record {
  is_before : l.before ≡ end_before l.jobs l.end;
  points : l.points.items ≡ points_by l.cycle l.jobs l.before;
}
