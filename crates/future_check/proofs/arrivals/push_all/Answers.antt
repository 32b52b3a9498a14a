-- The arrivals of one task more are listed.
use Rattle.std.proofs.Common.{◌≡◌, ◌≤◌, ◌++◌, Some, subst}
use Rattle.std.specs.Prelude.{slice_get}
use Rattle.slot_core.specs.declared.TheConstants.{TIME_LIMIT}
use Rattle.slot_core.specs.Claims.Futures.{densest_until}
use Rattle.slot_core.specs.Feasibility.Sporadics.{densest_arrivals}
use Rattle.future_check.proofs.Comings.{next-near, task-at, task-in_range, tasks-more}
use Rattle.future_check.proofs.arrivals.push_all.Goals as goal

pub push_task-requires-clause-in_range : goal.push_task-requires-clause-in_range
push_task-requires-clause-in_range g c =
    let set = c.args.exec.now.plan.tasks in
    let at = task-at set c.tasks.result.now c.items-task-items.result.now c.loop-index.index c.task-item.result c.items-task-items.ensures c.tasks.ensures.tasks c.loop-index-test.true c.task-item.is in
    task-in_range set c.loop-index.index c.task-item.result c.tasks.ensures.plan.sound at

pub push_task-requires-clause-near : goal.push_task-requires-clause-near
push_task-requires-clause-near g c =
    let exec = c.args.exec.now in
    let next = subst (λ nexts. slice_get nexts c.loop-index.index ≡ Some c.next_of-next.result) c.reserve-reserve.ensures.nexts c.next_of-next.ensures in
    next-near exec c.loop-index.index c.next_of-next.result c.now-now.ensures.kept (subst (λ t. t ≤ TIME_LIMIT) c.now-now.ensures.time c.now-now.ensures.early) next

pub loop-index-preserved : goal.loop-index-preserved
loop-index-preserved g c =
    let exec = c.args.exec.now in
    let set = exec.plan.tasks in
    let at = task-at set c.tasks.result.now c.items-task-items.result.now c.loop-index.index c.task-item.result c.items-task-items.ensures c.tasks.ensures.tasks c.loop-index-test.true c.task-item.is in
    let next = subst (λ nexts. slice_get nexts c.loop-index.index ≡ Some c.next_of-next.result) c.reserve-reserve.ensures.nexts c.next_of-next.ensures in
    let pushed = subst (λ t. c.push_task.new.arrivals.items ≡ c.loop-index.arrivals.items ++ densest_arrivals c.loop-index.index c.task-item.result c.next_of-next.result t c.args.until) c.now-now.ensures.time c.in_ok-push_task.ensures in
    tasks-more c.loop-index.index set.sporadics exec.scene.nexts c.task-item.result c.next_of-next.result exec.scene.time c.args.until c.loop-index.arrivals.items c.push_task.new.arrivals.items (c.args.arrivals.now.items ++ densest_until set exec.scene c.args.until) at next c.loop-index.invariant pushed
