use Rattle.std.proofs.Common.{◌≡◌, ◌*◌, ◌^◌, ◌<◌, take}
use Rattle.std.specs.Prelude.{sum_by}
use Rattle.slot_core.specs.declared.tasks.Sporadic.{Sporadic}
use Rattle.slot_core.specs.Feasibility.Sporadics.{arrivals_due}
use Rattle.demand_test.proofs.arrivals.needed_by.Given as goal

abbrev pub invariant-loop-task : goal.invariant-loop-task
invariant-loop-task l =
    (l.needed ≡ sum_by (λ (s : Sporadic). s.wcet * arrivals_due s 0 0 l.end) (take l.task-index l.sporadics)) × (l.needed < 2 ^ 63)
