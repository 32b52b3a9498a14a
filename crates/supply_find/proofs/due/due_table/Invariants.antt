use Rattle.std.proofs.Common.{◌≡◌, ℕ, ◌+◌, ◌≤◌, length, take, slice_index}
use Rattle.supply_find.specs.Due.{due_by}
use Rattle.supply_find.proofs.due.due_table.Given as goal

abbrev pub invariant-loop-job : goal.invariant-loop-job
invariant-loop-job l =
    record {
      len : length l.due.items ≡ l.cycle + 1;
      due : (b : ℕ) → b ≤ l.cycle → slice_index l.due.items b ≡ due_by (take l.job-index l.jobs) b;
    }
