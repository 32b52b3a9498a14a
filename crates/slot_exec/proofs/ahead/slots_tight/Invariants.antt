use Rattle.std.proofs.Common.{◌-◌, ◌≤◌}
use Rattle.slot_exec.specs.Ahead.{IsTightFor}
use Rattle.slot_exec.proofs.ahead.slots_tight.Given as goal

-- for the lower number of slots the time is tight
abbrev pub invariant-loop-low : goal.invariant-loop-low
invariant-loop-low g l = record {
  some : 1 ≤ l.low;
  between : l.low ≤ l.high;
  few : l.high ≤ l.most;
  tight : IsTightFor (g.T.SpareTable.spans l.table) l.reserve (g.T.SpareTable.time l.table) l.low l.room;
}

abbrev pub decreases-loop-low : goal.decreases-loop-low
decreases-loop-low g l = l.high - l.low
