-- The offers of the jobs so far were accepted, and soft jobs of lower rows taken; the others are left.
use Rattle.std.proofs.Common.{◌+◌, ◌≤◌, drop, take}
use Rattle.plan_change.specs.Carrying.{offers_of}
use Rattle.plan_change.proofs.SoftWay.{IsGoing}
use Rattle.plan_change.proofs.moves.move_all.Given as goal

abbrev pub invariant-loop-job : goal.invariant-loop-job
invariant-loop-job g l = record {
  way : IsGoing l.initial.into.plan (offers_of l.at l.cycle l.first l.jobs) (take l.soft l.from.scene.soft) l.into (offers_of l.at l.cycle l.next (drop l.job-index l.jobs)) (drop l.passed (take l.soft l.from.scene.soft));
  low : l.next ≤ l.first + l.job-index;
  few : l.passed ≤ l.soft;
}
