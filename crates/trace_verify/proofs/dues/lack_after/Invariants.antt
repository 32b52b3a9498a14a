use Rattle.std.proofs.Common.{◌≡◌, ◌+◌, ◌*◌}
use Rattle.trace_verify.specs.Dues.{due_before, IsLack}
use Rattle.trace_verify.proofs.dues.lack_after.Given as goal

-- what is lacking before the block
abbrev pub invariant-loop-k : goal.invariant-loop-k
invariant-loop-k l = record {
  work : due_before l.due (64 * l.k) ≡ due_before l.due (l.from + 1) + l.work;
  lack : IsLack (due_before l.due) l.from (l.from + 1) (64 * l.k) l.lack;
}
