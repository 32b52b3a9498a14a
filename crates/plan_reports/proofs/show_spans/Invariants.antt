-- The lines of the spans so far are written.
use Rattle.std.proofs.Common.{◌≤◌, take}
use Rattle.std.specs.Prelude.{flat_map}
use Rattle.std.specs.Io.KnownBytes.{Appends}
use Rattle.slot_core.specs.Output.Reports.{span_line}
use Rattle.plan_reports.proofs.show_spans.Given as goal

abbrev pub invariant-loop-span : goal.invariant-loop-span
invariant-loop-span g l = record {
  text : Appends (g.K.Sink.written l.initial.out) (g.K.Sink.written l.out) (flat_map span_line (take l.span-index l.spans));
  counted : g.K.Sink.faults l.initial.out ≤ g.K.Sink.faults l.out;
}
