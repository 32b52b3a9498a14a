-- The lines of the slots so far are written, and so many slots have passed.
use Rattle.std.proofs.Common.{◌≡◌, ◌≤◌}
use Rattle.std.specs.Io.KnownBytes.{Appends}
use Rattle.mode_switch.specs.Texts.{turn_lines}
use Rattle.mode_switch.proofs.text.put_turns.Given as goal

abbrev pub invariant-loop-passed : goal.invariant-loop-passed
invariant-loop-passed g l = record {
  change : l.change ≡ record l.initial.change { passed = l.passed };
  text : Appends (g.K.Sink.written l.initial.out) (g.K.Sink.written l.out) (turn_lines l.first l.initial.change.plan.tasks l.initial.change.at l.initial.change.carried l.passed);
  counted : g.K.Sink.faults l.initial.out ≤ g.K.Sink.faults l.out;
}
