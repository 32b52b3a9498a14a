use Rattle.std.proofs.Common.{◌≡◌, ◌+◌, ℕ, length}
use Rattle.trace_verify.specs.Dues.{due_before}
use Rattle.trace_verify.proofs.dues.push_zeros.Given as goal

-- the same are due, at more times
abbrev pub invariant-loop-i : goal.invariant-loop-i
invariant-loop-i l = record {
  same : (n : ℕ) → due_before l.due.items n ≡ due_before l.initial.due.items n;
  longer : length l.due.items ≡ length l.initial.due.items + l._i;
}
