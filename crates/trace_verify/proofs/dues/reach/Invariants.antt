use Rattle.std.proofs.Common.{◌≡◌, ◌+◌, ◌-◌, ◌/◌, ℕ, length}
use Rattle.trace_verify.specs.Dues.{due_before, AreBlocks}
use Rattle.trace_verify.proofs.dues.reach.Given as goal

-- the same are due, with more blocks
abbrev pub invariant-loop-due : goal.invariant-loop-due
invariant-loop-due l = record {
  blocks : AreBlocks l.due.items l.blocks.items;
  same : (n : ℕ) → due_before l.due.items n ≡ due_before l.initial.due.items n;
}

-- the blocks up to the time that are not there
abbrev pub decreases-loop-due : goal.decreases-loop-due
decreases-loop-due l = l.at / 64 + 1 - length l.blocks.items
