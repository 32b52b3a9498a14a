-- The marks are the tasks from which a path of so many entries leads to the task, and no shorter path does.
use Rattle.std.proofs.Common.{◌≡◌, ℕ, ◌+◌, ◌-◌, length}
use Rattle.std.specs.List.{list_any, range_with_len}
use Rattle.slot_core.specs.declared.TheConstants.{TASK_LIMIT}
use Rattle.slot_core.specs.Offline.Precedence.{leads_to, is_on_loop}
use Rattle.window_derive.specs.Marks.{is_marked}
use Rattle.window_derive.proofs.loops.is_on_loop.Given as goal

abbrev pub invariant-loop-entries : goal.invariant-loop-entries
invariant-loop-entries l = record {
  long : length l.leading ≡ TASK_LIMIT;
  leads : (t : ℕ) → is_marked l.leading t ≡ leads_to l.tasks l._entries t l.task;
  left : list_any (λ n. leads_to l.tasks n l.task l.task) (range_with_len (l._entries + 1) (length l.tasks - l._entries)) ≡ is_on_loop l.tasks l.task;
}
