-- The entries so far are raised.
use Rattle.std.proofs.Common.{◌≡◌, ℕ, ◌==◌, max, cond, length, take}
use Rattle.std.specs.Prelude.{slice_index}
use Rattle.std.specs.List.{list_any}
use Rattle.slot_core.specs.declared.TheConstants.{TASK_LIMIT}
use Rattle.window_derive.proofs.chains.raise.Given as goal

abbrev pub invariant-loop-entry : goal.invariant-loop-entry
invariant-loop-entry l = record {
  long : length l.after ≡ TASK_LIMIT;
  raised : (t : ℕ) → slice_index l.after t ≡ cond (list_any (λ a. a == t) (take l.entry-index l.entries)) (max (slice_index l.initial.after t) l.chain) (slice_index l.initial.after t);
}
