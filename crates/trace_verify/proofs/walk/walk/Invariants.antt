use Rattle.std.proofs.Common.{◌≡◌, ◌+◌, ◌-◌, length, map}
use Rattle.sporadic_reserve.specs.Reserves.{without_name}
use Rattle.trace_verify.specs.Verdicts.{verdict}
use Rattle.trace_verify.proofs.Walks.{IsWalking}
use Rattle.trace_verify.proofs.walk.walk.Given as goal

-- the lines so far tell a lawful history, and what the others tell is the whole verdict
abbrev pub invariant-loop-left : goal.invariant-loop-left
invariant-loop-left l = record {
  walking :
      IsWalking
      l.plan.tasks
      l.slots
      l.checker.scene
      l.left
      l.n
      l.rest
      (verdict l.plan.tasks l.plan.cycle l.arrivals l.slots l.text);
  tasks : l.checker.sporadics ≡ map without_name l.plan.tasks.sporadics;
}

-- the slots and the arrivals that are left
abbrev pub decreases-loop-left : goal.decreases-loop-left
decreases-loop-left l = (l.slots - l.checker.scene.time) + length l.left
