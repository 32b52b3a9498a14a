use Rattle.std.proofs.Common.{◌≡◌, ◌+◌}
use Rattle.trace_verify.specs.Dues.{due_before, IsLack}
use Rattle.trace_verify.proofs.dues.stretch_of.Given as goal

-- the same of the times so far
abbrev pub invariant-loop-i : goal.invariant-loop-i
invariant-loop-i l = record {
  work : due_before l.due l.i ≡ due_before l.due l.start + l.work;
  lack : IsLack (due_before l.due) l.start l.start l.i l.lack;
}
