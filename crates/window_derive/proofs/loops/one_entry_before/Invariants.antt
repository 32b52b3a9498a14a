-- The tasks before this one are marked where an entry of theirs is, and the others are not marked.
use Rattle.std.proofs.Common.{◌≡◌, ℕ, ◌<◌, ◌≤◌, false, length}
use Rattle.std.specs.List.{list_any}
use Rattle.slot_core.specs.declared.TheConstants.{TASK_LIMIT}
use Rattle.slot_core.specs.Offline.Precedence.{after_of}
use Rattle.window_derive.specs.Marks.{is_marked}
use Rattle.window_derive.proofs.loops.one_entry_before.Given as goal

abbrev pub invariant-loop-place : goal.invariant-loop-place
invariant-loop-place l = record {
  long : length l.before ≡ TASK_LIMIT;
  done : (t : ℕ) → t < l.place → is_marked l.before t ≡ list_any (is_marked l.leading) (after_of l.tasks t);
  left : (t : ℕ) → l.place ≤ t → is_marked l.before t ≡ false;
}
