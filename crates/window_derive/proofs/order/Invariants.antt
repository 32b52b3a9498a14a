-- The tasks so far are in order, and they are the placed ones.
use Rattle.std.proofs.Common.{◌≡◌, ℕ, length}
use Rattle.slot_core.specs.declared.TheConstants.{TASK_LIMIT}
use Rattle.window_derive.specs.Marks.{is_marked}
use Rattle.window_derive.specs.Orders.{is_listed}
use Rattle.window_derive.proofs.OrderLemmas.{IsOrdered}
use Rattle.window_derive.proofs.order.Given as goal

abbrev pub invariant-loop-place : goal.invariant-loop-place
invariant-loop-place l = record {
  long : length l.placed ≡ TASK_LIMIT;
  marked : (t : ℕ) → is_marked l.placed t ≡ is_listed l.order.items t;
  places : length l.order.items ≡ l._place;
  ordered : IsOrdered l.tasks l.order.items;
}
