-- The arrivals of the tasks so far, and those of the others.
use Rattle.std.proofs.Common.{◌≡◌, ◌++◌, drop}
use Rattle.slot_core.specs.Claims.Futures.{densest_until}
use Rattle.slot_core.specs.Feasibility.Sporadics.{densest_pattern}
use Rattle.future_check.proofs.arrivals.push_all.Given as goal

abbrev pub invariant-loop-index : goal.invariant-loop-index
invariant-loop-index g l =
    l.arrivals.items
    ++ densest_pattern
    l.index
    (drop l.index l.exec.plan.tasks.sporadics)
    (drop l.index l.exec.scene.nexts)
    l.exec.scene.time
    l.until
    ≡ l.initial.arrivals.items ++ densest_until l.exec.plan.tasks l.exec.scene l.until
