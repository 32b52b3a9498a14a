use Rattle.std.proofs.Common.{◌≡◌, ◌-◌, ◌≤◌}
use Rattle.slot_port.specs.Calls.{ran_in}
use Rattle.slot_port.proofs.PassedSlots.{HasPassed}
use Rattle.slot_port.proofs.passing.pass_counted.Given as goal

-- in each slot so far what was to run in the first has run
abbrev pub invariant-loop-passed : goal.invariant-loop-passed
invariant-loop-passed g l = record {
  some : 1 ≤ l.passed;
  few : l.passed ≤ l.most;
  first : l.first ≡ ran_in l.fn.exec;
  passed : HasPassed l.fn.exec l.exec l.passed;
  row : l.exec.last_row ≡ l.fn.exec.last_row;
}

abbrev pub decreases-loop-passed : goal.decreases-loop-passed
decreases-loop-passed g l = l.most - l.passed
