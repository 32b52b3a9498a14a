-- One task more.
use Rattle.std.proofs.Common.{◌≡◌, ◌+◌, ◌-◌, ◌*◌, ◌/◌, get_or, ap, arith}
use Rattle.std.proofs.lemmas.List.Sums.{sum_by_more}
use Rattle.slot_core.specs.declared.tasks.Sporadic.{Sporadic}
use Rattle.supply_find.proofs.spare.arrivals_within.Goals as goal

pub loop-task-preserved : goal.loop-task-preserved
loop-task-preserved c =
    let ss = c.args.sporadics.now in
    let s = c.task-item.result in
    let slots = c.args.slots in
    let f = λ (s : Sporadic). s.wcet * ((slots + (s.separation - 1)) / s.separation) in
    let here : f s ≡ f (get_or ss c.loop-task.task-index s) = ap f c.task-item.is in
    record {
      value = omega (arith, here, sum_by_more f ss c.loop-task.task-index s c.loop-task-test.true, c.arrivals_of-sum.ensures.value, c.loop-task.invariant.value);
      small = omega (arith, c.arrivals_of-sum.ensures.small, c.loop-task.invariant.small);
    }
