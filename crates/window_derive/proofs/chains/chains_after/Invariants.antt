-- The longest of the chains that the tasks from this place on make.
use Rattle.std.proofs.Common.{◌≡◌, ℕ, length, drop}
use Rattle.std.specs.Prelude.{slice_index}
use Rattle.slot_core.specs.declared.TheConstants.{TASK_LIMIT}
use Rattle.window_derive.proofs.ChainSteps.{longest_by}
use Rattle.window_derive.proofs.chains.chains_after.Given as goal

abbrev pub invariant-loop-place : goal.invariant-loop-place
invariant-loop-place l = record {
  long : length l.after ≡ TASK_LIMIT;
  raised : (t : ℕ) → slice_index l.after t ≡ longest_by l.tasks (drop l.place l.order) t;
}
