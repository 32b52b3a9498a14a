use Rattle.std.proofs.Common.{◌≡◌, ◌*◌}
use Rattle.trace_verify.specs.Dues.{due_before}
use Rattle.trace_verify.proofs.dues.work_in_blocks_before.Given as goal

-- the slots due before the block
abbrev pub invariant-loop-k : goal.invariant-loop-k
invariant-loop-k l = l.work ≡ due_before l.due (64 * l.k)
