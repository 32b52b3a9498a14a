-- The lines of the margins so far are written.
use Rattle.std.proofs.Common.{◌≤◌, take}
use Rattle.std.specs.Io.KnownBytes.{Appends}
use Rattle.plan_reports.specs.MarginLines.{margin_lines}
use Rattle.plan_reports.proofs.margins.put_lines.Given as goal

abbrev pub invariant-loop-margin : goal.invariant-loop-margin
invariant-loop-margin g l = record {
  text : Appends (g.K.Sink.written l.initial.out) (g.K.Sink.written l.out) (margin_lines l.tasks (take l.margin-index l.margins));
  counted : g.K.Sink.faults l.initial.out ≤ g.K.Sink.faults l.out;
}
