use Rattle.std.proofs.Common.{◌-◌, ◌≤◌}
use Rattle.slot_exec.specs.Ahead.{AreFree}
use Rattle.slot_exec.proofs.ahead.slots_free.Given as goal

-- the slots taken are free
abbrev pub invariant-loop-taken : goal.invariant-loop-taken
invariant-loop-taken g l = record {
  some : 1 ≤ l.taken;
  few : l.taken ≤ l.most;
  free : AreFree (g.T.SpareTable.spans l.table) l.reserve (g.T.SpareTable.time l.table) l.taken;
  steps : l.initial.steps ≤ l.steps;
}

abbrev pub decreases-loop-taken : goal.decreases-loop-taken
decreases-loop-taken g l = l.most - l.taken
