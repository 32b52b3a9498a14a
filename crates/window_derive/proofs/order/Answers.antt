-- The order so far, one task more, and whole.
use Rattle.std.proofs.Common.{◌≡◌, ◌+◌, ◌<◌, ◌≤◌, true, false, [], ◌∷◌, ◌++◌, replicate, length, length-set, refl, sym, ap, ◌∙◌, rules, arith}
use Rattle.std.proofs.lemmas.List.{length_push}
use Rattle.std.specs.Prelude.{is_some}
use Rattle.slot_core.specs.declared.TheConstants.{TASK_LIMIT}
use Rattle.window_derive.specs.Orders.{is_listed}
use Rattle.window_derive.proofs.LoopLemmas.{unmarked}
use Rattle.window_derive.proofs.OrderLemmas.{IsOrdered-nil, IsOrdered-push, IsNext-from_next_task, IsOrder-from_ordered, next_task-from_marks, loopless-from_order, marked-push}
use Rattle.window_derive.proofs.StuckLemmas.{loop-from_stuck}
use Rattle.window_derive.proofs.order.Goals as goal

pub loop-place-init : goal.loop-place-init
loop-place-init c = record {
  long = search rules;
  marked = λ t. unmarked (replicate TASK_LIMIT false) t refl ∙ sym (ap (λ xs. is_listed xs t) c.new-order.ensures.items);
  places = ap length c.new-order.ensures.items;
  ordered = rw c.new-order.ensures.items (IsOrdered-nil c.items-tasks.result.now);
}

pub unwrap-requires : goal.unwrap-requires
unwrap-requires c =
    let tasks = c.items-tasks.result.now in
    let order = c.loop-place.order.items in
    let same = next_task-from_marks tasks c.loop-place.placed order c.loop-place.invariant.marked in
    let left : length order < length tasks = omega arith in
    ap is_some c.first_on_loop.ensures ∙ loop-from_stuck tasks order left (sym same ∙ sym c.in_default.ensures)

pub bounds-placed-from : goal.bounds-placed-from
bounds-placed-from c =
    let tasks = c.items-tasks.result.now in
    let order = c.loop-place.order.items in
    let same = next_task-from_marks tasks c.loop-place.placed order c.loop-place.invariant.marked in
    let next = IsNext-from_next_task tasks order c.in-Some.task (sym same ∙ sym c.in-Some.ensures) in
    let count : length tasks ≤ TASK_LIMIT = rw c.items-tasks.ensures c.requires.count in
    omega arith

pub loop-place-preserved : goal.loop-place-preserved
loop-place-preserved c =
    let tasks = c.items-tasks.result.now in
    let order = c.loop-place.order.items in
    let task = c.in-Some.task in
    let same = next_task-from_marks tasks c.loop-place.placed order c.loop-place.invariant.marked in
    let now = sym same ∙ sym c.in-Some.ensures in
    let next = IsNext-from_next_task tasks order task now in
    let count : length tasks ≤ TASK_LIMIT = rw c.items-tasks.ensures c.requires.count in
    let within : task < length c.loop-place.placed = omega (arith, c.loop-place.invariant.long, next.within) in
    let pushed : c.push.new.self.items ≡ order ++ task ∷ [] = c.in_ok-push.ensures.items in
    let marks = marked-push c.loop-place.placed order task within c.loop-place.invariant.marked in
    record {
      long = length-set c.loop-place.placed c.from.result true ∙ c.loop-place.invariant.long;
      marked = λ t. rw (c.from.ensures, pushed) (marks t);
      places = ap length pushed ∙ length_push order task ∙ ap (λ n. n + 1) c.loop-place.invariant.places;
      ordered = rw pushed (IsOrdered-push tasks order task c.loop-place.invariant.ordered now);
    }

pub returns-clause-order : goal.returns-clause-order
returns-clause-order c =
    rw (← c.items-tasks.ensures) (IsOrder-from_ordered c.items-tasks.result.now c.loop-place.order.items c.loop-place.invariant.ordered (omega arith))

pub returns-clause-loopless : goal.returns-clause-loopless
returns-clause-loopless c =
    let is = IsOrder-from_ordered c.items-tasks.result.now c.loop-place.order.items c.loop-place.invariant.ordered (omega arith) in
    loopless-from_order c.args.graph.now.tasks c.loop-place.order.items c.requires.named (rw (← c.items-tasks.ensures) is)
