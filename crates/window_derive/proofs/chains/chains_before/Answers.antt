-- The longest chain before one task more.
use Rattle.std.proofs.Common.{◌≤◌, length, length-set, ◌∙◌, rules, arith}
use Rattle.slot_core.specs.declared.TheConstants.{TASK_LIMIT}
use Rattle.window_derive.proofs.ChainArrays.{AreBefore-none, AreBefore-more, AreChainsBefore-from_all, place_within}
use Rattle.window_derive.proofs.chains.chains_before.Goals as goal

pub loop-task-init : goal.loop-task-init
loop-task-init c = record {
  long = search rules;
  so_far = AreBefore-none c.args.tasks.now TASK_LIMIT;
}

pub longest_before-requires-clause-task : goal.longest_before-requires-clause-task
longest_before-requires-clause-task c =
    place_within c.args.tasks.now c.args.order.now c.loop-task.task-index c.requires.order c.loop-task-test.true

pub bounds-before-from : goal.bounds-before-from
bounds-before-from c =
    let within = place_within c.args.tasks.now c.args.order.now c.loop-task.task-index c.requires.order c.loop-task-test.true in
    omega (arith, c.from.ensures, c.requires.orderable.count)

pub loop-task-preserved : goal.loop-task-preserved
loop-task-preserved c =
    let tasks = c.args.tasks.now in
    let order = c.args.order.now in
    let before = c.loop-task.before in
    let i = c.loop-task.task-index in
    let long : length tasks ≤ length before = omega (arith, c.requires.orderable.count, c.loop-task.invariant.long) in
    let more = AreBefore-more tasks order before i c.longest_before.result c.requires.orderable c.requires.order c.loop-task-test.true long c.loop-task.invariant.so_far c.longest_before.ensures in
    record {
      long = length-set before c.from.result c.longest_before.result ∙ c.loop-task.invariant.long;
      so_far = rw c.from.ensures more;
    }

pub returns : goal.returns
returns c =
    AreChainsBefore-from_all c.args.tasks.now c.args.order.now c.loop-task.before c.loop-task.task-index c.requires.order (omega arith) c.loop-task.invariant.so_far
