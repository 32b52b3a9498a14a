-- The greatest number of cycles for the jobs so far.
use Rattle.std.proofs.Common.{◌≡◌, ◌≤◌, take}
use Rattle.change_laws.specs.Carried.{cycles_of_change}
use Rattle.mode_switch.proofs.cycles.cycles_of.Given as goal

abbrev pub invariant-loop-job : goal.invariant-loop-job
invariant-loop-job l = record {
  cycles : l.cycles ≡ cycles_of_change l.cycle l.at (take l.job-index l.carried);
  few : l.cycles ≤ 16384;
}
