-- The entries so far.
use Rattle.std.proofs.Common.{◌≡◌, take}
use Rattle.load_gen.proofs.sets.task.Given as goal

abbrev pub invariant-loop-entry : goal.invariant-loop-entry
invariant-loop-entry l = l.entries ≡ take l.entry-index l.after
